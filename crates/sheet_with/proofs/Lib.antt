-- The ways through what is below the run.
pub mod Ways
-- The whole.
pub mod Whole
