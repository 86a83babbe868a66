-- One inserted alias is all that there is to follow.
pub mod AliasLeads
-- What a sheet says.
pub mod SheetLaws
-- What it does not depend on.
pub mod OtherPlaces
-- A run is what document 01 answers.
pub mod Runs
