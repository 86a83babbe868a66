-- Each way through the code finds what its twin finds.
use Rattle.std.specs.Prelude.{Option, Some, None, ℕ}
use mathlib.Core.Path.{◌≡◌, refl, sym, ap, ◌∙◌}
use mathlib.Core.List.{List, [], ◌∷◌}
use Prim.Native.Nat.{ℕ, zero, suc, ◌+◌, ◌-◌, ◌%◌, ◌<◌, ◌≤◌}
use native.Mathlib.Omega.{arith}
use lib.ListN.{get_or}
use borrow.Author.Rules.{rules}
use borrow.Author.Tests.{lt-ltb, le-ltb, le-leb, lt-leb, eq-eqb, ne_eqb}
use Rattle.kit.specs.Pick.{pick}
use Rattle.kit.proofs.Laws.{down}
use Rattle.parts.specs.PartsAt.{parts_at}
use Rattle.parts.specs.declared.Parts.{Parts}
use Rattle.names.specs.Table.{Slot, no_scope, scope_at}
use Rattle.claim_scopes.specs.Open.{open_in}
use Rattle.claim_scopes.specs.Entries.{look_t}
use Rattle.claim_reach.specs.Alias.{reach_counted_t, reached_t, reach_code_t, export_code, outer_at, export_at, outer_in, export_in, through_outer_t, through_export_t}
use Rattle.claim_reach.specs.Outward.{or_further, reach_out_t}
use Rattle.claim_reach.specs.declared.alias.Sought.{Sought}
use Rattle.names.specs.declared.Met.{Met}

-- ---- an alias by its number

pub counted_low : (number : ℕ) → number < 65536 → number + 1 ≡ reach_counted_t number
unfolding reach_counted_t pick
counted_low number h = rw (lt-ltb _ _ h)

pub counted_high : (number : ℕ) → 65536 ≤ number → 0 ≡ reach_counted_t number
unfolding reach_counted_t pick
counted_high number h = rw (le-ltb _ _ h)

pub reached_is : (ss : List Slot) (s : Sought) (n : ℕ) (e : Option ℕ) → n ≡ reach_counted_t s.number → e ≡ look_t ss (s.scope % 65536 + 1) s.space n → e ≡ reached_t ss s
unfolding reached_t
reached_is ss s n e h q = rw (← h) q

-- ---- its rows

pub code_none : (claim : List ℕ) (i : ℕ) → i ≡ 0 → 0 ≡ reach_code_t claim i
unfolding reach_code_t pick
code_none claim i h = rw (eq-eqb _ _ h)

pub code_before : (claim : List ℕ) (i : ℕ) (p : Parts) → (i ≡ 0 → ⊥) → p ≡ parts_at claim (i - 1) → p.b ≡ reach_code_t claim i
unfolding reach_code_t pick
code_before claim i p h e = rw (ne_eqb _ _ h, ← e)

pub export_core : (space : ℕ) → space ≤ 6 → 10 ≡ export_code space
unfolding export_code pick
export_core space h = rw (le-leb _ _ h)

pub export_other : (space : ℕ) → 6 < space → 9 ≡ export_code space
unfolding export_code pick
export_other space h = rw (lt-leb _ _ h)

module _ (claim : List ℕ) (i k : ℕ) (q : k ≡ reach_code_t claim i) where
  pub outer_none : (k ≡ 11 → ⊥) → None ≡ outer_at claim i
  unfolding outer_at pick
  outer_none h = rw (← q, ne_eqb _ _ h)

  pub outer_there : (p : Parts) → k ≡ 11 → p ≡ parts_at claim (i + 1) → Some (record { out = p.x; number = p.y }) ≡ outer_at claim i
  unfolding outer_at pick
  outer_there p h e = rw (← q, eq-eqb _ _ h, ← e)

  module _ (space name code : ℕ) (c : code ≡ export_code space) where
    pub export_none : (k ≡ code → ⊥) → None ≡ export_at claim i space name
    unfolding export_at pick
    export_none h = rw (← q, ← c, ne_eqb _ _ h)

    module _ (h : k ≡ code) (x : Parts) (e : x ≡ parts_at claim (i + 2)) where
      pub export_another : (x.x ≡ name → ⊥) → None ≡ export_at claim i space name
      unfolding export_at pick
      export_another g = rw (← q, ← c, eq-eqb _ _ h, ← e, ne_eqb _ _ g)

      pub export_there : (p : Parts) → x.x ≡ name → p ≡ parts_at claim (i + 1) → Some p.x ≡ export_at claim i space name
      unfolding export_at pick
      export_there p g r = rw (← q, ← c, eq-eqb _ _ h, ← e, eq-eqb _ _ g, ← r)

pub ruleset rows_of_alias = (counted_low, counted_high, reached_is, code_none, code_before, export_core, export_other, outer_none, outer_there, export_none, export_another, export_there, rules)

-- ---- through it

module _ (ss : List Slot) (claim : List ℕ) (s : Sought) (e : Option ℕ) (q : e ≡ reached_t ss s) where
  pub through_outer_none : e ≡ None → (X : Option Met) → X ≡ None → X ≡ through_outer_t ss claim s
  unfolding through_outer_t outer_in
  through_outer_none h X x = x ∙ rw (← q, h)

  pub through_outer_there : (row : ℕ) (m : Option Met) → e ≡ Some row → m ≡ outer_at claim row → m ≡ through_outer_t ss claim s
  unfolding through_outer_t outer_in
  through_outer_there row m h r = rw (← q, h) r

  pub through_export_none : (name : ℕ) → e ≡ None → (X : Option ℕ) → X ≡ None → X ≡ through_export_t ss claim s name
  unfolding through_export_t export_in
  through_export_none name h X x = x ∙ rw (← q, h)

  pub through_export_there : (name row : ℕ) (m : Option ℕ) → e ≡ Some row → m ≡ export_at claim row s.space name → m ≡ through_export_t ss claim s name
  unfolding through_export_t export_in
  through_export_there name row m h r = rw (← q, h) r

pub ruleset throughs = (through_outer_none, through_outer_there, through_export_none, through_export_there, rules)

-- ---- outward

-- what is left to do
abbrev pub Goes : List Slot → (scopes : List (List ℕ)) (depth left space name : ℕ) → Option Met → Type 0
Goes ss scopes depth left space name m = reach_out_t ss (open_in scopes left) (depth - left + 1) space name ≡ m

module _ (ss : List Slot) (scopes : List (List ℕ)) (depth space name : ℕ) where
  pub goes_start : Goes ss scopes depth depth space name (reach_out_t ss (open_in scopes depth) 1 space name)
  goes_start = let e : depth - depth + 1 ≡ 1 = omega arith in rw e

  module _ (left : ℕ) (m : Option Met) (g : Goes ss scopes depth left space name m) where
    pub goes_end : left ≤ 0 → None ≡ m
    unfolding reach_out_t open_in
    goes_end h = let z : left ≡ 0 = omega arith in rw z at g

    module _ (h : 0 < left) (l : left ≤ depth) (scope : List ℕ) (s : scope ≡ scope_at scopes (left - 1)) (e : Option ℕ) (q : e ≡ look_t ss (get_or scope 1 0) space name) where
      innermost_first : open_in scopes left ≡ scope_at scopes (left - 1) ∷ open_in scopes (left - 1)
      unfolding open_in
      innermost_first = ap (open_in scopes) (down left h)

      opened : or_further e (depth - left + 1) (reach_out_t ss (open_in scopes (left - 1)) (depth - left + 1 + 1) space name) ≡ m
      unfolding reach_out_t
      opened = rw (q, s) (rw innermost_first at g)

      pub goes_found : (number : ℕ) → e ≡ Some number → Some (record { out = depth - (left - 1); number = number }) ≡ m
      unfolding or_further
      goes_found number v = let n : depth - (left - 1) ≡ depth - left + 1 = omega arith in rw n (rw v at opened)

      pub goes_on_lem : e ≡ None → Goes ss scopes depth (left - 1) space name m
      unfolding or_further
      goes_on_lem v = let n : depth - (left - 1) + 1 ≡ depth - left + 1 + 1 = omega arith in rw n (rw v at opened)

pub ruleset turns = (goes_start, goes_end, goes_found, goes_on_lem, rules)
