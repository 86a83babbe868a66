-- What the contracts cite: the scopes that are open, and what was entered for each.
pub mod Open
pub mod Entries
