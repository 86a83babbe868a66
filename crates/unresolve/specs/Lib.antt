-- What the contract of `unresolve` cites: the rules' answer where the areas are lent, and its numbers.
pub mod With
pub mod Meaning
-- Of the code's own shape, for proofs.
pub mod Restored
pub mod Run
