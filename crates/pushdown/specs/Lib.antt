pub mod Grammar
pub mod Table
pub mod Rows
pub mod Engine
pub mod Meaning
pub mod Spelling
pub mod Fits
