pub mod KnownNames
pub mod NamesOf
pub mod OneLevel
