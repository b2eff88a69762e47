pub mod Listed
pub mod Units
pub mod Fitting
pub mod Small
pub mod Networks
pub mod Laws
