-- What the contracts of the loop cite.
pub mod Shares
