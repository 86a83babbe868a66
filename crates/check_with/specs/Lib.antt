-- What the contract cites besides `checking` and `resolver_with`.
pub mod With
-- What only the proofs do.
pub mod Large
