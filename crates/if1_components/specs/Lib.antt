pub mod Components
pub mod Backward
pub mod Colors
pub mod Tours
pub mod Parts
