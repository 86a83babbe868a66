pub mod Laws
pub mod Right
pub mod Rows
