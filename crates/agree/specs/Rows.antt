-- Rows that stand in bytes or are written there, and the rows of an item.
pub mod At
pub mod AtLaws
pub mod ItemRows
