-- What numbers stand for, for the crates above.
pub mod Laws
