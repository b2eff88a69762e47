pub mod Lists
pub mod Members
pub mod Codes
pub mod Growth
pub mod Stores
