pub mod Derivations
pub mod Engine
pub mod RowTests
pub mod Values
pub mod Sizes
pub mod Spelling
pub mod Fits
