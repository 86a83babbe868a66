pub mod Agrees
pub mod Ends
pub mod Middle
pub mod Rows
pub mod Ways
