mod Sized
mod SizedForms
mod SizedLoops
mod SizedTrees
