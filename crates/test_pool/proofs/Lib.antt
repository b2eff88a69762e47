mod Ones
mod Refused
