pub mod Inputs
pub mod Walks
