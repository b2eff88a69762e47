pub use Rattle.output_marks.specs.FiringOrderOrders
pub mod Data
pub mod Facts
pub mod Graphs
