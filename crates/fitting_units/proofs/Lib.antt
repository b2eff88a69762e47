pub mod Tables
pub mod Levels
pub mod Walk
pub mod Programs
pub mod Choices
pub mod Tags
