mod Ending
mod Running
