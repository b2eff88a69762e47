pub mod Counting
pub mod Forms
pub mod Programs
pub mod Laws
