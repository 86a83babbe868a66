-- The definition, and laws on it.
pub mod Cleared
pub mod Laws
