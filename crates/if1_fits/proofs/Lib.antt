pub mod Viewed
pub mod Decided
pub mod Walks
pub mod Ports
pub mod Law
