pub use Rattle.made_store.specs.Settled
pub use Rattle.made_store.specs.Settings
pub mod Parts
pub mod Stands
