-- What must be believed.
pub mod Compare
-- Runs that antt computes.
pub mod CompareRuns
-- What is proved of it.
pub mod Laws
