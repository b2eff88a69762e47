pub use Rattle.unit_runs.proofs.Runs
pub use Rattle.unit_runs.proofs.WritesOf
pub use Rattle.unit_runs.proofs.QuickCode
pub mod Wide
pub mod Given
pub mod Fired
pub mod Counts
pub mod Written
