-- The steps on a tree whose names are others.
pub mod Trees
-- Its rows are read as that tree.
pub mod Reads
-- And its bytes.
pub mod Bytes
-- A mapping of the names that stand in the form, and the one by first appearance.
pub mod OwnNames
-- The names in an output.
pub mod OutNames
-- For the names of a form.
pub mod OfForms
-- What is written by first appearance.
pub mod Anonymous
