-- What the rules say of the proposal, under each setting in force.
pub mod Agrees
-- The ways through the code.
pub mod Ways
