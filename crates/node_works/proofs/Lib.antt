pub mod Named
pub mod Ordered
pub mod Noted
pub mod Shaped
pub mod Wide
pub mod Above
