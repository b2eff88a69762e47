pub mod Ways
pub mod Numbered
pub mod Painted
pub mod Turned
pub mod Toured
