-- What must be believed.
pub mod Moved
pub mod MovedAnswer
-- Runs that antt computes.
pub mod MovedRuns
