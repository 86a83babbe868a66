-- What the fields of a form have: spaces that there are, and operands that fit.
pub mod Spaces
pub mod GoodSpaces
pub mod FitAgrees
