-- Each way through the code finds what its twin finds.
use Rattle.std.specs.Prelude.{Option}
use mathlib.Core.Path.{◌≡◌, refl, sym, ap, ◌∙◌}
use mathlib.Core.List.{List, [], ◌∷◌}
use Prim.Native.Nat.{ℕ, zero, suc, ◌+◌, ◌-◌, ◌*◌, ◌%◌, ◌<◌, ◌≤◌}
use native.Mathlib.Omega.{arith}
use lib.ListN.{length, get_or, set, take}
use borrow.Author.Rules.{rules}
use borrow.Author.Tests.{lt-ltb, le-ltb, eq-eqb, ne_eqb}
use Rattle.kit.specs.Pick.{pick}
use Rattle.kit.specs.Out.{◌&◌}
use Rattle.kit.proofs.Laws.{down_suc}
use Rattle.parts.specs.declared.Parts.{Parts}
use Rattle.names.specs.Table.{Slot, between, find_in, pushed, no_scope, scope_at, innermost_t}
use Rattle.index.specs.Indexed.{Holds, Covers}
use Rattle.index.proofs.Storey.{covers_all}
use Rattle.claim_scopes.specs.Open.{open_scope_t, open_behind_t, open_in, here_t}
use Rattle.claim_scopes.specs.Entries.{entry_key_t, slot_t, look_t}

-- ---- behind_row

module _ (scopes : List (List ℕ)) (d i : ℕ) (p : Parts) where
  pub behind_open : p.code ≡ 7 → d < length scopes → (d + 1 & set scopes d (open_scope_t p.x i)) ≡ open_behind_t scopes d p i
  unfolding open_behind_t pick
  behind_open h g = rw (eq-eqb _ _ h, lt-ltb _ _ g)

  pub behind_full : p.code ≡ 7 → length scopes ≤ d → (d & scopes) ≡ open_behind_t scopes d p i
  unfolding open_behind_t pick
  behind_full h g = rw (eq-eqb _ _ h, le-ltb _ _ g)

  pub behind_close : p.code ≡ 8 → (d - 1 & scopes) ≡ open_behind_t scopes d p i
  unfolding open_behind_t pick
  behind_close h = rw h

  pub behind_none : p.code ≡ 8 → d ≡ 0 → (0 & scopes) ≡ open_behind_t scopes d p i
  unfolding open_behind_t pick
  behind_none h g = rw (h, g)

  pub behind_other : (p.code ≡ 7 → ⊥) → (p.code ≡ 8 → ⊥) → (d & scopes) ≡ open_behind_t scopes d p i
  unfolding open_behind_t pick
  behind_other h g = rw (ne_eqb _ _ h, ne_eqb _ _ g)

pub ruleset behinds = (behind_open, behind_full, behind_close, behind_none, behind_other, rules)

-- ---- here

pub here_is : (scopes : List (List ℕ)) (depth : ℕ) (s : List ℕ) → s ≡ innermost_t scopes depth → get_or s 1 0 ≡ here_t (open_in scopes depth)
unfolding innermost_t open_in here_t pick
here_is scopes zero s e = rw e
here_is scopes (suc k) s e = let q : suc k - 1 ≡ k = omega arith in rw (e, ne_eqb (suc k) 0 (omega arith), q)

-- ---- look_up, enter

between_all : (used : ℕ) (table : List Slot) → between 0 used table ≡ take used table
unfolding between
between_all used table = let e : used - 0 ≡ used = omega arith in rw e

pub look_is : (table : List Slot) (used scope space name key : ℕ) (f : Option ℕ) → key ≡ entry_key_t scope space → f ≡ find_in (between 0 used table) key name → f ≡ look_t (take used table) scope space name
unfolding look_t
look_is table used scope space name key f k e = rw (e, k, between_all)

pub ruleset looks = (look_is, covers_all, rules)

pub slot_entered : (table table' : List Slot) (used r scope space name value key : ℕ) → key ≡ entry_key_t scope space → (r & table') ≡ pushed table used (key ∷ name ∷ value ∷ 0 ∷ 0 ∷ 0 ∷ []) → (r & table') ≡ pushed table used (slot_t scope space name value)
unfolding slot_t
slot_entered table table' used r scope space name value key k e = rw (← k) e
