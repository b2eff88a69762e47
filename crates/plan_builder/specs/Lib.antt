pub mod Outlets
pub mod Feeds
pub mod Nodes
pub mod Ways
pub mod Collects
pub mod Laws
