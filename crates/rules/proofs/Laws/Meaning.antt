pub mod ReadNames
-- What the steps do to declarations, to fields, to operands.
pub mod Runs
pub mod Lookups
pub mod StepB
pub mod StepC
pub mod Frames
-- Of an accepted form: the two readings agree.
pub mod Agree
-- Numbers stay as written.
pub mod Written
pub mod Origins
pub mod Around
pub mod Explained
-- The turn of a reference in a run; a walked name that nothing declares, at its turn; what refusal 9 means; every turn comes.
pub mod Turns
pub mod Unknown
pub mod Early
pub mod Blame
pub mod EveryTurn
pub mod InTime
-- What the newer rules accept, today's resolve to the same.
pub mod Stricter
-- The row that lookup answers.
pub mod EntryRows
