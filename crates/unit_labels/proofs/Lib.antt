mod Entering
mod Steps
mod Numbers
mod Whole
