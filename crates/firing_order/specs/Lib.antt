pub use Rattle.unit_plan.specs.Returns
pub use Rattle.unit_plan.specs.Plans
pub mod Orders
pub mod Laws
