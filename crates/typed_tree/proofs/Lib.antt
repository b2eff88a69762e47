pub mod Depths
pub mod Examples
