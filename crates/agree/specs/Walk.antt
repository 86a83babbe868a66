-- The walk over scopes and fields: `WalkAgrees` is the induction, `RootAgrees` the end.
pub mod WalkStates
pub mod ItemAgrees
pub mod FieldsAgrees
pub mod WalkAgrees
pub mod RootAgrees
