-- What the contracts cite.
pub mod Meaning
-- What only the proofs do: the run as the code takes it.
pub mod Run
