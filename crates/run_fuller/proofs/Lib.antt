pub mod Within
pub mod Same
