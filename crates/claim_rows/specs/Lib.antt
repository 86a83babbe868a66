-- What the contracts cite: the rows that are left of a run of bytes,
pub mod Left
-- whether a field is added,
pub mod Added
-- and condition 2 on rows.
pub mod Same
