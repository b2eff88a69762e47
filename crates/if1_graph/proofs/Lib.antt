pub mod Splitting
pub mod Rows
pub mod Rising
pub mod Lists
pub mod Written
pub mod Decimals
pub mod Spelled
pub mod Pieces
pub mod RoundTrip
pub mod Endings
pub mod ReadSpelled
mod Lookups
mod Operands
mod Examples
