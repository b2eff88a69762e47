pub use Rattle.unit_code.specs.declared.runs.Totals
pub mod Calls
pub mod Laws
pub mod Texts
