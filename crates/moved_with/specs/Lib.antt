-- What the contract cites besides `moved` and `resolver_with`.
pub mod With
