-- What must be believed.
pub mod Mend
-- Runs that antt computes.
pub mod MendRuns
