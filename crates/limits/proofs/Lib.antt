-- That limits stand for the settings, for the crates above.
pub mod Laws
