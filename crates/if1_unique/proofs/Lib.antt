pub mod Ordered
pub mod Held
pub mod Listed
pub mod Alike
pub mod Lines
pub mod Numbered
pub mod Units
