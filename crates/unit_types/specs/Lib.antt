pub mod Placing
pub mod Headings
pub mod Rests
pub mod Accepting
pub mod Reached
pub mod Headers
pub mod Faults
