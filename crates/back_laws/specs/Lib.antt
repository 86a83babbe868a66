-- Rows of a tree with their notes, as they stand in bytes.
pub mod Stand
-- What the first pass notes of them.
pub mod Notes
-- These rows part by part.
pub mod Listed
-- The names of declarations under their numbers.
pub mod Entered
pub mod Found
-- Groups of inserted fields from the back.
pub mod Groups
-- References as they were.
pub mod Restored
-- All rows, from the last to the first.
pub mod Backward
pub mod Operands
