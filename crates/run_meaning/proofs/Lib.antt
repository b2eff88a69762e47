pub mod Sourced
pub mod Within
