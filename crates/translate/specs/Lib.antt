pub use Rattle.lowered_ready.specs.RuleLaws as Laws
