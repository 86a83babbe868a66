-- `Meaning` gives the rules' answer for each answer of the code: the public contract cites it and crate `renaming` alone.
pub mod Meaning
-- The rest serves proofs: the table of names, and rows as the code takes and writes them.
pub mod Seen
pub mod Renamed
pub mod Run
