pub mod Nesting
pub mod Labels
pub mod Readiness
