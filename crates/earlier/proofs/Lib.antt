pub mod Holders
pub mod Descent
-- What an accepted output refers to stands before what refers to it: `alias_before`, `name_before`.
pub mod Ordered
-- A scope that a run has come to; why a run is refused with 13; what an accepted run let pass.
pub mod Scopes
pub mod Causes
pub mod Came
-- The names that are held to earlier declarations: `late_only`, `accepted_earlier`.
pub mod Held
-- All this over inputs.
pub mod OfInputs
