mod Words
mod OperationExamples
mod ChoiceExamples
mod LoopExamples
mod TurnExamples
mod ProgramExamples
pub mod Tables
pub mod Stable
