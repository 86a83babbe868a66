-- The rules' number and place for each answer of the code.
use Rattle.std.specs.Prelude.{ℕ, length, Result, Ok, Err}
use Rattle.mending.specs.Mend.{Mending, refused, mended}
use Rattle.refusal.specs.declared.Refusal.{Refusal}

-- a refusal's number and place, or 0 and the number of changes
pub record Numbers : Type 0 where
  pub number : ℕ
  pub place : ℕ

abbrev pub numbers : ℕ → ℕ → Numbers
numbers number place = record { number = number; place = place }

-- of the code
abbrev pub meaning : Result ℕ Refusal → Numbers
meaning (Ok changes) = numbers 0 changes
meaning (Err refusal) = numbers refusal.number refusal.place

-- of the rules
abbrev pub ruled : Mending → Numbers
ruled (refused number place) = numbers number place
ruled (mended form list) = numbers 0 (length list)
