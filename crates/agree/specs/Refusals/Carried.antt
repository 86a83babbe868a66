-- A refusal of the rules, as the code gives it: its number and place, and what it carries.
use Rattle.std.specs.Prelude.{ℕ}
use Rattle.rules.specs.Rules.{Refusal, number_of, carried_by}
use Rattle.refusal.specs.declared.Refusal.{Refusal as Said}
use Rattle.refusal.specs.declared.Told.{Told}
use Rattle.refusal.specs.Refusals.{refusal_at, told_in}

abbrev pub said_of : Refusal → (place : ℕ) → Said
said_of why place = refusal_at (number_of why) place

abbrev pub told_of : Refusal → Told
told_of why = told_in (carried_by why)
