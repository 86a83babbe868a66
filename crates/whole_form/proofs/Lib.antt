-- What an answer says of the bytes, for the crates above.
pub mod Headers
pub mod Laws
pub mod Ways
