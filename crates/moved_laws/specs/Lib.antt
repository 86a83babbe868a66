-- In a scope: a number moves exactly if an inserted declaration of its space has it or a lower one.
pub mod Pushed
pub mod InScope
-- The names of the scopes around a place.
pub mod Named
-- One operand: what is listed of its row is what the rules list of its place.
pub mod AtPlace
-- The fields of an input and of its output, side by side.
pub mod Pairs
-- The walk through the rows of both.
pub mod Span
pub mod Walk
-- All entries are those of the two lists.
pub mod Agrees
