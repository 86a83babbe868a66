-- By which setting marked rows are walked.
pub mod Relaxed
-- The walk over marked rows.
pub mod Walked
