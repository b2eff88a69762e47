pub mod Changed
pub mod Chosen
pub mod WorkedUnits
