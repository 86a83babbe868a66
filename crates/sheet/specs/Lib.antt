-- What the contract cites,
pub mod Meaning
-- and the run as the code takes it.
pub mod Run
