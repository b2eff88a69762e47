pub mod Numbered
pub mod Arguments
