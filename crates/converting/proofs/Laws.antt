-- A setting by its numbers.
pub mod Numbered
-- The same rows, the same answer, and there and back the same bytes.
pub mod Converter
