-- A header written is one, and a header read is the one that is written.
pub mod Written
-- Which setting the header of an input asks for.
pub mod Settings
