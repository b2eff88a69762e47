pub use Rattle.compile_call.specs.Laws as OneText
pub use Rattle.compile_call.specs.Calls as Compiled
pub use Rattle.run_call.specs.Texts as RunCallTexts
pub use Rattle.run_call.specs.Calls
pub use Rattle.run_call.specs.Totals
pub use Rattle.run_call.specs.Laws
pub mod Answer
pub mod Lines
pub mod Outputs
pub mod Program
pub mod Refusals
pub mod Status
pub mod Texts
