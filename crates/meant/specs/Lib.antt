-- What a name means, by rows.
pub mod Names
-- In which of the two forms, and where.
pub mod Part
