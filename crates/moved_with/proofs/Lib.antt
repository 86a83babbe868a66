-- The ways through the code.
pub mod Ways
-- The whole run against the rules.
pub mod Whole
