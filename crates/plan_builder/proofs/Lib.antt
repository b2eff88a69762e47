pub mod Standing
pub mod Units
pub mod Handling
pub mod Multiples
pub mod Collected
pub mod Extents
pub mod Made
