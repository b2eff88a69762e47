mod Bare
mod Reading
mod Functions
