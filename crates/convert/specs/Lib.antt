-- `Meaning` gives the rules' answer for each answer of the code: the contract of `convert` cites it and the rules alone.
pub mod Meaning
-- What only the proofs do: the version asked for by its place, and what is known of the bytes.
pub mod Run
