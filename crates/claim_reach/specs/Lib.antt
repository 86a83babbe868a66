-- What the contracts cite: what added aliases lead to, and names in the scopes around.
pub mod Alias
pub mod Outward
