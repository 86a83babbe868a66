-- Which row a place is: this must be believed.
pub mod PlaceRows
-- Counting with rows counts as the readings do.
pub mod Counting
