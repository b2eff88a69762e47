pub mod Wrong
mod Lesser
mod Early
mod Blamed
mod InOrder
mod Listed
mod Whole
