pub use Rattle.run_laws.specs.Weighing
pub use Rattle.run_laws.specs.Facts
pub mod Plans
pub mod Laws
pub mod Orders
pub mod Tables
