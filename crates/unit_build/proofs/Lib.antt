pub mod Blocks
pub mod Nesting
pub mod Functions
pub mod Readiness
pub mod Labels
