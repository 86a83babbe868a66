-- The rows of a scope that are gone through, from its tree.
pub mod Visited
-- The names that the scope declares are entered.
pub mod Entered
-- Its references are marked.
pub mod Referred
-- So all scopes are.
pub mod Agrees
