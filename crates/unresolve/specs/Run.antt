-- The way back as the code goes, under the setting at place i.
use Rattle.std.specs.Prelude.{◌≡◌, List, [], ◌∷◌, ℕ, ◌+◌, ◌-◌, ◌*◌, ◌/◌, ◌≤◌, ltb, length, drop, Option as CodeOption, Some, None, Result, Ok, Err}
use Rattle.std.proofs.Math.Option.{none, some}
use Rattle.std.proofs.lemmas.List.Edits.{sets}
use Rattle.kit.specs.Pick.{pick}
use Rattle.kit.specs.Out.{Out, ◌&◌}
use Rattle.rules.specs.Versions.{Setting}
use Rattle.unresolving.specs.BackAnswer.{back}
use Rattle.refusal.specs.Refusals.{refusal_at, untold}
use Rattle.limits.specs.Held.{setting}
use Rattle.refusal.specs.declared.Refused.{Refused}

-- a refusal at place 0
abbrev pub refused_t : (number : ℕ) → Result ℕ Refused
refused_t number = Err (record { refusal = refusal_at number 0; told = untold })

-- that setting, and no other
abbrev pub alone : (i : ℕ) → List Setting
alone i = setting i ∷ []

-- what was found is what the rules give
unfoldable pub Came : (i : ℕ) → CodeOption ℕ → (claim area : List ℕ) → Type 0
Came i None claim area = back (alone i) claim ≡ none
Came i (Some at) claim area =
    (back (alone i) claim ≡ some (drop at area)) × (at ≤ 16 * (setting i).version.rows) × (length area ≡ (setting i).version.header + 16 * (setting i).version.rows)

-- writes an input of the setting at place i to the front of the output, if there is room for it
unfoldable pub give_t : (i : ℕ) (input out : List ℕ) → Out (Result ℕ Refused) (List ℕ)
give_t i input out =
    pick (ltb (length out) (length input)) (refused_t 3 & out)
    (Ok ((length input - (setting i).version.header) / 16) & sets out 0 input)

-- an area behind its front: the front is worked in, and the rest stays
pub record Kept (size : ℕ) (old new : List ℕ) : Type 0 where
  pub long : length new ≡ length old
  pub rest : drop size new ≡ drop size old
