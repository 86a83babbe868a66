-- What the contracts cite.
pub mod Begins
