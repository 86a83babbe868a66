-- What the contract cites besides `sheet` and `resolver_with`, and what serves proofs.
pub mod With
