mod Forms
mod Names
mod Steps
mod Forks
mod Turning
mod Arms
mod Initials
