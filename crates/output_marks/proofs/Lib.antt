pub use Rattle.storage_flags.proofs.Numbered
pub mod Lists
pub mod Told
