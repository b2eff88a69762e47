pub mod Tokens
pub mod Leaves
pub mod Bound
pub mod Laws
pub mod Depths
