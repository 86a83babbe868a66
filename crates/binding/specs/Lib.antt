-- What must be believed.
pub mod Sheet
-- Runs that antt computes.
pub mod SheetRuns
