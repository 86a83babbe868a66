-- The rows of one scope, as they are gone through.
pub mod Visits
-- What the contracts cite.
pub mod MarkedRows
