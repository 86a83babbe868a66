pub mod Laws
pub mod Agrees
pub mod Whole
