pub use Rattle.firing_order.proofs.Found
pub mod Numbered
pub mod Listed
