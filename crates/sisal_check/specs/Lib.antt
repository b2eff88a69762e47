pub mod Headed
pub mod Walked
pub mod Texts
pub mod Numbered
