mod Kept
mod Folds
mod LoopClauses
mod Steps
mod Told
mod Whole
