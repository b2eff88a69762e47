pub use Rattle.plan_shares.proofs.Graphs as PlanSharesGraphs
pub use Rattle.plan_shares.proofs.Handed
pub use Rattle.plan_shares.proofs.OwnedParts
pub mod Alike
pub mod Literals
pub mod Uncopied
pub mod Ports
pub mod Passing
pub mod Graphs
pub mod Runs
pub mod QuickCode
pub mod WritesOf
