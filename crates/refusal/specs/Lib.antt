-- Refusals as the definitions of the other crates write them.
pub mod Refusals
