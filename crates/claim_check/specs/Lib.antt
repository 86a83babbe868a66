-- `Meaning` gives the rules' verdict for each of the code's: the contract of `check` cites it and the rules alone. `Run` is of the code's own shape, and serves proofs.
pub mod Meaning
pub mod Run
