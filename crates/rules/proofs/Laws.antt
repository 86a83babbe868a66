-- The numbers with which the steps refuse.
pub mod Refusals
-- The operands of an export with an ascribed type.
pub mod Ascribed
-- How rows are read: `ReadRight` is the end.
pub mod Read
-- The meaning of references before and after a run: `Agree`, `Unknown`, `Blame` and `EveryTurn` are the ends.
pub mod Meaning
-- The output of an accepted run: its size, that it is a form again, that its bytes are read as it.
pub mod Output
-- Of every input.
pub mod AnswerLaws
pub mod InputLaws
