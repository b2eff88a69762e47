pub mod Timed
pub mod Words
pub mod Sources
pub mod Rows
pub mod Meaning
pub mod Descents
pub mod Plain
