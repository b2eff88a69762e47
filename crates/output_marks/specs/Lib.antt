pub use Rattle.storage_flags.specs.FiringOrderOrders
pub use Rattle.storage_flags.specs.Graphs
pub use Rattle.storage_flags.specs.Flags
pub use Rattle.storage_flags.specs.Orders
pub mod Outputs
pub mod Marks
