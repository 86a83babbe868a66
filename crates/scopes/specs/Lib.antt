pub mod Scopes
pub mod Tables
