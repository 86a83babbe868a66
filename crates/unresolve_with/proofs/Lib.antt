-- The ways through the code in areas of their sizes, and in their fronts.
pub mod Ways
-- What is found under the setting that is asked for is what all in force give.
pub mod Asked
-- The whole run.
pub mod Whole
