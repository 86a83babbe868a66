pub mod Made
pub mod Printed
pub mod Whole
