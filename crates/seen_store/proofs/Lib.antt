pub mod Example
pub mod Seeing
pub mod Made
