pub mod Written
pub mod Names
pub mod Functions
pub mod Texts
pub mod Typed
pub mod Printed
pub mod Results
