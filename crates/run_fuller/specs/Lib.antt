pub mod Fuller
