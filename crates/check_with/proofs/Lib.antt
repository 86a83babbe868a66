-- The ways through the code below the run.
pub mod Ways
-- The whole run against the rules.
pub mod Whole
