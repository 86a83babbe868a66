-- What the contract of `resolve_with` cites: which settings are in force, how large the areas are, and what is answered and left.
pub mod Asked
pub mod Areas
pub mod With
-- What only the proofs do.
pub mod Exact
