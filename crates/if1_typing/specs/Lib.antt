pub mod Tables
pub mod Fed
pub mod Contents
pub mod Sites
pub mod Ends
pub mod Given
pub mod Agree
pub mod Inside
