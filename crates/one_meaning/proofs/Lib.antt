pub mod Bared
pub mod Words
pub mod Moved
pub mod Once
