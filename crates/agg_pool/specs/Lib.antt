pub mod Entries
pub mod Parts
pub mod Pools
pub mod Tables
