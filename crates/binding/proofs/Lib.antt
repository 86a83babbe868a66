-- What is proved of it.
pub mod Laws
