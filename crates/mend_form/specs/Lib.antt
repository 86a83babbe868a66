-- What the contracts cite.
pub mod Kept
pub mod Filled
