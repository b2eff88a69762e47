pub use Rattle.unit_plan.proofs.Found
pub use Rattle.unit_plan.proofs.Ways
pub use Rattle.if1_reach.proofs.Labelled
pub mod Sorts
pub mod Along
