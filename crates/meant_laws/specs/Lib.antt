-- What the rules say, and what the rows give.
pub mod Told
-- One scope, and the scope that an OUTER asks for.
pub mod Declares
pub mod Asks
-- Every name at a place of the member.
pub mod NameRow
-- On bytes.
pub mod OnForms
