-- Each way through the code.
pub mod Ways
-- What the last comparison tells.
pub mod Resolves
-- The settings in force, each by itself.
pub mod Alone
-- What is restored.
pub mod Candidate
-- That both are the rules'.
pub mod Agrees
