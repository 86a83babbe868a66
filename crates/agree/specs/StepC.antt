-- Step C at one field: what was inserted before it, then its own rows.
pub mod WriteAgrees
pub mod NumberAgrees
pub mod ChainAgrees
pub mod RefAgrees
pub mod AliasAgrees
pub mod CaseAgrees
pub mod OuterAgrees
pub mod OwnAgrees
pub mod HeadAgrees
