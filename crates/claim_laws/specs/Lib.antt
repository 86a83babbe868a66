-- The rows of trees as the code sees them, as it goes over them, and what is entered for their scopes.
pub mod RowParts
pub mod Marks
pub mod Keys
-- Condition 2.
pub mod SameRows
-- Condition 3.
pub mod AliasShape
pub mod NewNames
-- Condition 4: what is entered for a claim, that there is room for it,
pub mod Slots
pub mod Pairs
pub mod Few
-- what is found among it: of one scope, and of each,
pub mod Found
pub mod Known
pub mod Scopes
-- what names mean and numbers reach, one operand, and all of them.
pub mod Reaching
pub mod OneOperand
pub mod Operands
-- The conditions on the bytes of an input and a claim.
pub mod OnBytes
pub mod Conditions
