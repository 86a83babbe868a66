-- The ways through the code.
pub mod Ways
