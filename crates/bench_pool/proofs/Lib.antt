mod Emptied
mod Filled
mod Lent
