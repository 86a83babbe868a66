-- The references of a tree at a place, by the tree alone; in an accepted run those of the input and of the output.
pub mod Refs
-- The search through rows.
pub mod RefRows
pub mod Scan
-- What a reference reaches.
pub mod Reached
-- All slots.
pub mod Agrees
