pub mod Bounds
pub mod Adds
pub mod Along
pub mod Known
pub mod Followed
