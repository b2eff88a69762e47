pub mod Lists
pub mod Keying
pub mod Levels
pub mod Laws
pub mod Parts
