pub mod Fair
pub mod UnitLaws
pub mod Inverted
pub mod Bare
pub mod InvertedTree
pub mod ExprLaws
