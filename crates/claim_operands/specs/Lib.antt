-- Condition 4 on rows: what the contracts cite, of references with PATHs, of others, of OUTERs, and of all rows.
pub mod Paths
pub mod Reference
pub mod Outer
pub mod Operands
