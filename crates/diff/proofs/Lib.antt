pub mod Agrees
pub mod Lists
pub mod Runs
pub mod Ways
