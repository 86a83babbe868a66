-- What must be believed.
pub mod Convert
-- Runs that antt computes.
pub mod ConvertRuns
