pub mod Text
pub mod Known
pub mod Version
