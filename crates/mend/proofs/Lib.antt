pub mod Agrees
pub mod InPlace
pub mod Ways
