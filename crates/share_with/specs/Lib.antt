-- What the contract cites besides `sharing` and `resolver_with`.
pub mod With
-- What only the proofs do: the run as the code takes it.
pub mod Run
