pub mod Counted
pub mod Arguments
pub mod RoomTables
pub mod Makes
pub mod Recorded
