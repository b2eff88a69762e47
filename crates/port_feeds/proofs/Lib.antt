pub mod Search
pub mod Right
pub mod Rows
pub mod Lending
pub mod Feeding
