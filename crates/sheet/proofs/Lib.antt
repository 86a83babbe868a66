-- The ways through the comparison of bytes and the working area.
pub mod Ways
-- A run on bytes.
pub mod Runs
-- The whole.
pub mod Whole
