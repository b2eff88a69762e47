pub mod Keeping
pub mod Listing
pub mod Resolving
pub mod Standing
