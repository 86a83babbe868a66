-- What must be believed.
pub mod Renaming
pub mod Anonymous
-- Runs that antt computes.
pub mod RenamingRuns
