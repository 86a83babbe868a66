-- What the contracts cite.
pub mod Held
