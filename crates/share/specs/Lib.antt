-- What the contract cites.
pub mod Lent
-- What only the proofs do: the run as the code takes it.
pub mod Run
