-- `Meaning` gives the rules' answer for each answer of the code: the contract of `compare` cites it and the rules alone.
pub mod Meaning
-- What only the proofs do: the list as the code writes it, and the whole run.
pub mod Written
pub mod Run
