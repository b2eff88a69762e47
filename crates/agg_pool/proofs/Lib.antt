pub mod Rooms
pub mod Tables
