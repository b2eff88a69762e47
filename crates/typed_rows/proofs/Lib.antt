pub mod ValueKinds
pub mod Scalars
pub mod Rows
pub mod Folds
