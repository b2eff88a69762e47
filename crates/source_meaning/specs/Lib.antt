pub mod Slots
pub mod Reads
pub mod Loops
pub mod Pending
pub mod Tasks
