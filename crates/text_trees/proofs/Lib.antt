pub mod Every
pub mod Counts
pub mod Pieces
pub mod Forms
pub mod Spelled
pub mod Views
pub mod Parts
