pub mod Names
pub mod Rows
pub mod Ways
pub mod Agrees
