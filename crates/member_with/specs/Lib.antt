-- What the contracts cite: the working areas.
pub mod Areas
