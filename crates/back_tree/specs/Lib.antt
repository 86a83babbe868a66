-- What a run leaves: its inserted fields, and how many declarations there are.
pub mod Made
pub mod Few
-- Rows with their notes.
pub mod Named
-- The fields of the input.
pub mod OwnField
-- Those that were inserted.
pub mod NewField
-- A whole tree.
pub mod Whole
-- Its rows in bytes.
pub mod Put
pub mod OnRows
