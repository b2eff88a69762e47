pub mod Keyed
pub mod Parts
pub mod Scopes
pub mod States
