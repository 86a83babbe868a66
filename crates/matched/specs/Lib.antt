-- What the contracts cite: the choice that a number says, and a row as it counts.
pub mod Counted
-- The root's fields as the code finds them alike.
pub mod Alike
