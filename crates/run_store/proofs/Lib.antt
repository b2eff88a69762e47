pub mod Effects
pub mod Fitting
pub mod Refining
pub mod Supply
pub mod Whole
pub mod Ports
pub mod Example
pub mod Sums
