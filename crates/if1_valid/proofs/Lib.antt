pub mod Named
pub mod Headers
pub mod Finding
pub mod Refusals
