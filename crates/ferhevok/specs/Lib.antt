-- `Packed` is the number that a C function answers.
pub mod Packed
-- `Meant` is the number for a declaration.
pub mod Meant
-- `Telling` is what a refusal tells besides.
pub mod Telling
