pub mod Going
pub mod Turns
pub mod Likeness
pub mod Begins
pub mod ReadyMarks
pub mod Units
