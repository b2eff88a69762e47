pub mod Chain
pub mod Newest
