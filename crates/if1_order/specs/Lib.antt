pub mod Within
pub mod Orders
pub mod Walks
pub mod Feeders
pub mod Parts
pub mod Arranged
pub mod Rising
