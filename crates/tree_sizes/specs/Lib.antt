pub mod Capped
pub mod Phrases
pub mod Clauses
