-- What must be believed; `Back` computes it and need not be.
pub mod BackAnswer
pub mod Back
-- Runs that antt computes.
pub mod BackRuns
