-- What is proved of headers.
pub mod Laws
