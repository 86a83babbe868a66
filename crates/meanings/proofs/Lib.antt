pub mod EntryLaws
pub mod Noted
