-- What the contract cites, and what only the proofs do: the list as the code makes it.
pub mod Listed
