pub use Rattle.unit_orders.specs.FiringOrderOrders
pub use Rattle.unit_orders.specs.Orders
pub use Rattle.unit_orders.specs.Graphs
pub mod Flags
