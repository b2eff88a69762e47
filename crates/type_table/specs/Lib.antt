pub mod Forms
pub mod Tables
pub mod Keys
pub mod Kept
