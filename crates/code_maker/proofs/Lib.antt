pub mod Lists
pub mod Reading
pub mod Growing
pub mod Adding
pub mod Standing
pub mod Emitting
pub mod Unfilled
