pub mod Finals
pub mod Places
pub mod Rooms
