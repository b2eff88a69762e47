mod Entries
mod Refusals
mod OneRun
