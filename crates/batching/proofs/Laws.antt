-- Each member by itself.
pub mod BatchLaws
pub mod MemberLaws
pub mod BytesLaws
pub mod CallLaws
-- The prelude's root, as what lies around a member.
pub mod InPrelude
-- The row that a name means.
pub mod Seated
pub mod MeantRow
-- Demand 3.
pub mod BatchMeaning
pub mod Carried
