pub use Rattle.unit_orders.proofs.Numbered
pub use Rattle.unit_orders.proofs.Found as UnitPlanFound
pub mod Found
pub mod Filtered
