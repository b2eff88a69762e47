pub mod Crossing
pub mod Fields
pub mod Steps
pub mod Tokens
pub mod Words
