pub mod FrontList
