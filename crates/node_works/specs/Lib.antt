pub mod Tables
pub mod Tasks
