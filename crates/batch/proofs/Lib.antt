-- What is left to do, member by member, and the ways through the code.
pub mod Turns
pub mod Ways
