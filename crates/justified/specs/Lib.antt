-- That each no of the checker is justified.
pub mod Justified
