-- What must be believed.
pub mod Check
pub mod CheckAnswer
-- Runs that antt computes.
pub mod CheckRuns
