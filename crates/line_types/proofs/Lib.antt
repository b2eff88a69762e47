pub mod Same
mod Wires
mod Made
mod Forms
mod Loops
mod Turns
mod Trees
mod Programs
