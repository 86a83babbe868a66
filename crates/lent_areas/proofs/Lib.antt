-- The ways through the code.
pub mod Ways
-- The settings in force, for those who lend the areas.
pub mod InForce
