-- Rows and their notes, from the last to the first.
pub mod Below
-- What the contracts cite: inserted fields, references as they were, all rows.
pub mod Alias
pub mod Restore
pub mod Write
