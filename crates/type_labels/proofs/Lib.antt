mod Growth
pub mod Knowing
mod Lines
pub mod Names
mod Places
mod Steps
mod Tuples
