pub mod Parts
pub mod Generators
pub mod Clauses
pub mod Loops
pub mod Turns
pub mod Collected
