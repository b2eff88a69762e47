pub mod Laws
pub mod Multiples
pub mod Operands
pub mod Rows
