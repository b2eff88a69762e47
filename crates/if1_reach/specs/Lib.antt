pub mod Searches
pub mod Nets
pub mod Paths
pub mod Ranks
pub mod Least
pub mod Users
