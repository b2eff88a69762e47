pub mod Found
pub mod Wanted
pub mod Filled
pub mod Lenders
