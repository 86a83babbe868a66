-- Condition 3 on rows: what the contracts cite.
pub mod Aliases
