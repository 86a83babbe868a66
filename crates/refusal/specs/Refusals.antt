-- A refusal by its number and place, and what is told besides.
use Rattle.std.specs.Prelude.{List, ℕ, get_or}
use Rattle.refusal.specs.declared.Refusal.{Refusal}
use Rattle.refusal.specs.declared.Told.{Told}
use Rattle.refusal.specs.declared.Refused.{Refused}

abbrev pub refusal_at : (number place : ℕ) → Refusal
refusal_at number place = record { number = number; place = place }

-- what is told by its two numbers
abbrev pub tells : (space first : ℕ) → Told
tells space first = record { space = space; first = first }

-- nothing besides
abbrev pub untold : Told
untold = tells 0 0

-- the space alone
abbrev pub of_space : (space : ℕ) → Told
of_space space = tells space 0

-- what is carried, as it is told: 0 where there is no more
abbrev pub told_in : (carried : List ℕ) → Told
told_in carried = tells (get_or carried 0 0) (get_or carried 1 0)

-- a refusal that tells nothing besides
abbrev pub untold_of : Refusal → Refused
untold_of why = record { refusal = why; told = untold }
