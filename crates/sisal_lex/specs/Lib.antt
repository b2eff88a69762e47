pub mod Words
pub mod Signs
pub mod Quotes
pub mod Names
pub mod Heads
pub mod Tokens
pub mod Sound
pub mod Spelling
