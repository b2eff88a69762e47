pub use Rattle.plan_data.specs.declared.plan.PlanData
pub use Rattle.plan_data.specs.declared.plan.PlanNode
pub use Rattle.plan_data.specs.declared.plan.Work
pub use Rattle.plan_data.specs.Parts
pub mod Seats
pub mod Grows
pub mod Makes
pub mod Sparse
