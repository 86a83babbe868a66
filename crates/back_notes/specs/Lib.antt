-- Rows with their notes.
pub mod Note
-- What the contracts cite: the first pass, and the other two.
pub mod Number
pub mod Names
