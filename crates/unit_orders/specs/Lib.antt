pub use Rattle.firing_order.specs.Orders as FiringOrderOrders
pub use Rattle.mark_check.specs.Graphs
pub mod Orders
pub mod Laws
