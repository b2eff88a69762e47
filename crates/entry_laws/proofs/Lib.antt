pub mod Types
pub mod Names
pub mod Finds
pub mod Heads
pub mod Entries
