-- What must be believed: which definition stands before a field, and which names of an input are held to earlier declarations.
pub mod Order
pub mod Tested
-- The number of a name that is declared before a field counts to a definition before it; the scopes around a field of the output.
pub mod Numbers
-- What passed step B was in time; where a field of the output comes from, and what stands before it; down the way to it.
pub mod Passing
pub mod FieldsOut
-- Runs that antt computes.
pub mod EarlierRuns
