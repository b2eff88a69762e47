mod Depths
mod Items
mod Whole
pub mod Forms
pub mod Functions
pub mod Defined
pub mod Turned
pub mod Parts
pub mod Looped
mod Tops
pub mod Members
pub mod Lexed
