pub mod Added
mod Bodies
mod Lists
mod FormParts
pub mod Adds
mod Tables
mod Generators
pub mod Renewals
