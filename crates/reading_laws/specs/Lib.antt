-- Rows that stand in the bytes of a form, and the walks through them, up and down.
pub mod Stand
pub mod Even
pub mod Find
-- Scopes: those around a place are those around its row.
pub mod Floors
pub mod Everywhere
-- A declaration with all that is said of it.
pub mod Declared
-- Names outward, numbers, what an inserted field's rows hold, operands.
pub mod Outward
pub mod Number
pub mod Outers
pub mod Spots
pub mod Operands
-- What the tree says of a number.
pub mod Said
-- The readings on rows are those of the rules.
pub mod Meant
pub mod Whole
pub mod PlacesOriginal
pub mod Counted
-- Names in one scope.
pub mod LookedUp
-- Every REF is the row of a place; which rows are read outward.
pub mod EveryRow
pub mod Walked
-- The rows of an accepted input and its output, in their bytes, under any setting.
pub mod OnBytes
-- The sentence on bytes.
pub mod Sentence
