pub mod Scopes
pub mod Made
pub mod Closing
pub mod RuleSorting
pub mod Rows
pub mod World
pub mod Wholes
pub mod RuleForms
pub mod Ifs
pub mod Operations
pub mod Members
pub mod Cases
pub mod CaseForms
pub mod Applied
pub mod Clauses
pub mod Products
pub mod Initials
pub mod RuleTrees
pub mod Programs
pub mod Places
pub mod Ends
pub mod Callees
pub mod Bare
pub mod Read
pub mod Told
mod Before
mod OrderForms
mod Loops
mod OrderTrees
mod Units
pub mod Lists
pub mod Reading
pub mod Nodes
pub mod Knowing
pub mod PortSources
pub mod Filling
pub mod Bridge
pub mod Rooms
pub mod Known
pub mod Parts
pub mod TypeSources
pub mod Homes
pub mod Types
pub mod Sorting
