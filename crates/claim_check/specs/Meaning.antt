-- The rules' verdict for each verdict of the code.
use Rattle.std.specs.Prelude.{ℕ, Result, Ok, Err}
use Rattle.checking.specs.Check.{Verdict as Ruled}
use Rattle.checking.specs.Check as rules
use Rattle.claim_check.specs.declared.Verdict.TheVariants.{Yes, No}
use Rattle.claim_check.specs.declared.Verdict.{Verdict}
use Rattle.refusal.specs.declared.Refusal.{Refusal}

-- a verdict: of a refusal its number and place
pub data Said : Type 0 where
  yes : Said
  no : (condition row : ℕ) → Said
  refused : (number place : ℕ) → Said

-- of the code
abbrev pub meaning : Result Verdict Refusal → Said
meaning (Ok Yes) = yes
meaning (Ok (No condition row)) = no condition row
meaning (Err why) = refused why.number why.place

-- of the rules, whose refusals carry more than the code answers
abbrev pub ruled : Ruled → Said
ruled rules.yes = yes
ruled (rules.no condition row) = no condition row
ruled (rules.refused number place carried) = refused number place
