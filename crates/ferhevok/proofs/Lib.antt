pub mod Called
pub mod Conversions
pub mod Declarations
pub mod Lists
pub mod Packs
pub mod Slots
pub mod Tells
pub mod Verdicts
