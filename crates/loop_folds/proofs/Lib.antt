pub mod Joins
pub mod Values
pub mod Added
pub mod Limits
