pub mod Behind
pub mod Laying
pub mod Numbers
pub mod Putting
pub mod Spreading
pub mod Iterating
pub mod Moving
pub mod Keeping
