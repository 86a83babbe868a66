-- What is proposed, on the rules' side.
pub mod Agrees
-- The ways through the code.
pub mod Ways
