pub mod Refused
pub mod Params
