pub mod Phrased
pub mod Turned
