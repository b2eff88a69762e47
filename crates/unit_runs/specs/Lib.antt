pub use Rattle.code_maker.specs.Grows
pub use Rattle.code_maker.specs.Makes
pub use Rattle.sequential_run.specs.Runs as StepRuns
pub use Rattle.sequential_run.specs.Writes as StepWrites
pub mod Alike
pub mod Literals
pub mod Runs
pub mod Writes
pub mod Quick
pub mod Units
