-- The ways through a copy, also for what is written byte by byte.
pub mod Laws
