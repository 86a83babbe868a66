-- The pairs of two forms: all rows of both, in order.
pub mod Sides
-- The list that pairs give, whatever they are: in order, applied, empty.
pub mod Lists
-- What an entry of each kind is.
pub mod Kinds
-- Of every two inputs: `comparison` for every choice, `exact` where nothing is ignored.
pub mod Compared
-- The list as bytes: how many, and that they determine it.
pub mod Size
pub mod ListAgain
pub mod Backward
pub mod Middle
