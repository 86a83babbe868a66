-- The row of a place is its DECL or its operand; different places have different rows.
pub mod RowAt
pub mod RowsApart
-- A counted declaration is the one at its place.
pub mod LocatedAt
