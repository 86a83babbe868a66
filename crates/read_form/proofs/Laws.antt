-- Tools of the proofs.
pub mod Parting
-- How long what is written is.
pub mod OutputLength
-- What a form by itself is.
pub mod ReadFormLaws
