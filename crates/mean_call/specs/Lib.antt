pub mod Table
pub mod Known
pub mod Words
pub mod Calls
