pub mod Entries
pub mod Least
pub mod Late
pub mod Takers
pub mod Marks
pub mod Graphs
