-- An accepted prelude, and its root in bytes.
pub mod Prelude
pub mod Ways
