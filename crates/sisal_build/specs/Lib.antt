pub mod Nowhere
pub mod Tasks
