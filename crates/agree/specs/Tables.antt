-- The tables of slots: how large, what stands in them, which rows they name, which of them stand before a field.
pub mod Sizes
pub mod Slots
pub mod SlotLaws
pub mod SlotRows
pub mod Cursor
pub mod Earlier
