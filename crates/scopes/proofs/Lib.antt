pub mod ScopeLaws
pub mod ScopedLaws
pub mod ChainLaws
pub mod TableLaws
pub mod FoundLaws
