-- The prelude's root, entered as what lies around a member.
pub mod RootEntered
-- The walk inside it, as the code takes it; that it is the rules'.
pub mod Within
