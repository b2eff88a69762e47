pub mod Searches
pub mod Ways
pub mod Links
pub mod Labelled
pub mod Ranking
pub mod Sinking
pub mod Noted
