pub use Rattle.lowered_units.specs.Fitting
pub use Rattle.typed_values.specs.Fitting as FittingTreesFitting
pub use Rattle.lowered_units.specs.Units
pub mod Coverage
pub mod Laws
