pub use Rattle.sequential_run.specs.Whole
pub use Rattle.sequential_run.specs.Runs
pub mod Ranges
