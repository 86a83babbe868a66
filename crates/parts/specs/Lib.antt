-- What the contracts cite.
pub mod PartsAt
