-- What is noted of the rows of a form.
pub mod Entries
