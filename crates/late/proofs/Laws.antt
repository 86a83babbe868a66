-- The ways through the code: each law is one unfolding of a definition, with the facts in the form in which the code gives them.
use Rattle.std.specs.Prelude.{Option, ℕ, not, is_some}
use mathlib.Core.Path.{◌≡◌, refl}
use mathlib.Core.Bool.{Bool, true, false}
use mathlib.Core.List.{List}
use native.Mathlib.Omega.{arith}
use Prim.Native.Nat.{ℕ, ◌-◌, ◌≤◌, ◌<◌}
use borrow.Author.Rules.{rules}
use Rattle.kit.proofs.Laws.{yes!, no!, tests}
use Rattle.names.specs.Table.{Slot, between, find_in, scope_at, before_of}
use Rattle.index.specs.Indexed.{Covers}
use Rattle.late.specs.Late.{late_in, before_around}

-- ---- is_late

-- an index that serves the slots up to `to` serves those up to the lesser of two
pub covers_least : (table : List Slot) (index : List ℕ) (before to n : ℕ) → n ≡ before - (before - to) → Covers table index to → Covers table index n
covers_least table index before to n e c =
    let b = c.below in
    record { used = c.used; below = omega arith; holds = c.holds }

-- what is the other than another, of two
not_turn : (a b : Bool) → a ≡ not b → b ≡ not a
not_turn a true h = rw h
not_turn a false h = rw h

module _ (table : List Slot) (from before to space name n : ℕ) (e : n ≡ before - (before - to)) (f : Option ℕ) (got : f ≡ find_in (between from n table) space name) where
  pub late_is : (late : Bool) → is_some f ≡ not late → late ≡ late_in table from before to space name
  unfolding late_in
  late_is late m = rw (← e, ← got) (not_turn (is_some f) late m)

-- ---- scope_around, before_around

pub around_at : (scopes : List (List ℕ)) (depth out n : ℕ) → n ≡ depth - (depth - out) → (s : List ℕ) → s ≡ scope_at scopes (depth - n) → s ≡ scope_at scopes (depth - out)
around_at scopes depth out n e s q = let k : depth - n ≡ depth - out = omega arith in rw k at q

module _ (scopes : List (List ℕ)) (depth before out : ℕ) where
  pub before_innermost : out ≤ 1 → before ≡ before_around scopes depth before out
  unfolding before_around
  before_innermost h = yes! _ (omega tests) refl

  pub before_further : 1 < out → (s : List ℕ) → s ≡ scope_at scopes (depth - (out - 1)) → before_of s ≡ before_around scopes depth before out
  unfolding before_around
  before_further h s q = no! _ (omega tests) (rw q)

pub ruleset ways = (covers_least, late_is, around_at, before_innermost, before_further, rules)
