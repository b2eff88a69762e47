pub mod Stacks
pub mod Walks
pub mod Folds
pub mod Depths
pub mod Finals
