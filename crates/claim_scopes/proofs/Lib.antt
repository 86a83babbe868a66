-- Each way through the code.
pub mod Ways
-- What the arrays stand for, for the crates above.
pub mod Held
