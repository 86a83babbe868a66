-- What the contracts cite: the sizes of the tables, the walk inside a root whose rows are given, and the run.
pub mod Areas
pub mod Run
