pub mod Broken
pub mod Refusals
pub mod FormLaws
pub mod Parts
pub mod PartLaws
