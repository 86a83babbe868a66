-- What must be believed: a batch, and what a member's name means.
pub mod Batch
pub mod BatchBytes
pub mod BatchCalls
pub mod BatchReadings
-- Runs that antt computes.
pub mod BatchRuns
