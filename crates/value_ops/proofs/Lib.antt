pub mod Feeds
pub mod Joinings
pub mod Parts
