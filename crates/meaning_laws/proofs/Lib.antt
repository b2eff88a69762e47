pub mod Agree
pub mod Deeper
pub mod Falls
pub mod Forms
pub mod From
pub mod Layers
pub mod Numbers
pub mod Rises
