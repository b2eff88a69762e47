pub mod Members
pub mod Within
pub mod Walks
pub mod Orders
pub mod Units
pub mod Onward
