pub mod Crossing
pub mod Fields
pub mod Lists
pub mod Rows
mod Shells
pub mod Words
