pub mod Grown
pub mod Keys
pub mod Numbers
pub mod Lines
pub mod Turns
pub mod Kept
mod Pieces
mod Longest
