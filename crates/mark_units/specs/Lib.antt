pub mod Notes
pub mod Begun
pub mod Walked
pub mod Laws
