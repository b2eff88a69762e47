pub mod Standing
pub mod ToldTypes
pub mod Like
pub mod Reading
pub mod One
pub mod Calls
