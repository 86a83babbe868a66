-- What the contract cites besides `unresolving` and `resolver_with`.
pub mod With
-- What only the proofs do.
pub mod Exact
