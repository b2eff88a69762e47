pub use Rattle.made_store.specs.Settings
pub use Rattle.made_store.specs.Weights
pub use Rattle.made_store.specs.OrderedMeaningOrders
pub mod Returns
pub mod Plans
pub mod Shares
pub mod Laws
