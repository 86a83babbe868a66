-- Each way through the code: of operands, and of all rows.
pub mod Ways
pub mod Turns
