-- What must be believed.
pub mod Sharing
-- Runs that antt computes.
pub mod SharingRuns
