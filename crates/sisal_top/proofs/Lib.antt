pub mod Fronts
pub mod Lengths
pub mod Refusing
pub mod Replies
pub mod Writes
