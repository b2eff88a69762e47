pub mod Numerals
pub mod Naming
pub mod Sound
pub mod Complete
pub mod Answering
