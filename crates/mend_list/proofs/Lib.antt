pub mod Changes
pub mod Laws
