pub mod Ports
pub mod Uses
pub mod Around
pub mod Consuming
pub mod Owned
pub mod Looked
pub mod Inner
