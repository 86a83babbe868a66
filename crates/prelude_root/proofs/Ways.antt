-- Each way through the code finds what its twin finds.
use mathlib.Core.Path.{◌≡◌, refl}
use mathlib.Core.List.{List}
use Prim.Native.Nat.{ℕ, ◌+◌, ◌-◌, ◌/◌, ◌%◌, ◌<◌, ◌≤◌}
use native.Mathlib.Omega.{arith}
use lib.ListN.{length, replicate}
use borrow.Author.Rules.{rules}
use borrow.Author.Tests.{eq-eqb, ne_eqb}
use Rattle.kit.specs.Pick.{pick}
use Rattle.kit.specs.Out.{Out, ◌&◌}
use Rattle.parts.specs.PartsAt.{parts_at}
use Rattle.parts.specs.declared.Parts.{Parts}
use Rattle.names.specs.Table.{Slot, slot_of, pushed}
use Rattle.claim_rows.specs.Left.{rows_at}
use Rattle.claim_rows.proofs.Ways.{rows_there, rows_past}
use Rattle.claim_numbers.specs.Count.{count_before_t}
use Rattle.prelude_root.specs.Root.{depth_t, beside_t, numbered_t, root_row_t, root_behind_t, turn_t, then_t, root_rows_t, root_t}
use Rattle.prelude_root.specs.declared.Cursor.{Cursor}

-- ---- behind

module _ (depth code : ℕ) where
  pub behind_open : code ≡ 7 → depth + 1 ≡ depth_t depth code
  unfolding depth_t pick
  behind_open h = rw (eq-eqb _ _ h)

  module _ (h : code ≡ 7 → ⊥) where
    pub behind_close : code ≡ 8 → (depth ≡ 0 → ⊥) → depth - 1 ≡ depth_t depth code
    unfolding depth_t pick
    behind_close g k = rw (ne_eqb _ _ h, eq-eqb _ _ g)

    pub behind_past : code ≡ 8 → depth ≡ 0 → 0 ≡ depth_t depth code
    unfolding depth_t pick
    behind_past g k = rw (ne_eqb _ _ h, eq-eqb _ _ g) (omega arith)

    pub behind_other : (code ≡ 8 → ⊥) → depth ≡ depth_t depth code
    unfolding depth_t pick
    behind_other g = rw (ne_eqb _ _ h, ne_eqb _ _ g)

pub ruleset depths = (behind_open, behind_close, behind_past, behind_other, rules)

-- ---- enter_row

module _ (p : Parts) (i depth used : ℕ) (names : List Slot) (counts : List (List ℕ)) where
  pub enters_inner : (depth ≡ 1 → ⊥) → (used & names & counts) ≡ root_row_t p i depth used names counts
  unfolding root_row_t pick
  enters_inner h = rw (ne_eqb _ _ h)

  module _ (h : depth ≡ 1) where
    pub enters_other : (p.code ≡ 2 → ⊥) → (used & names & counts) ≡ root_row_t p i depth used names counts
    unfolding root_row_t pick
    enters_other g = rw (eq-eqb _ _ h, ne_eqb _ _ g)

    pub enters_decl : (number row r : ℕ) (names' : List Slot) (counts' : List (List ℕ)) → p.code ≡ 2 → (number & counts') ≡ count_before_t counts 1 p → row ≡ i % 4294967296
        → (r & names') ≡ pushed names used (slot_of p.b p.x number row 0 0) → (r & names' & counts') ≡ root_row_t p i depth used names counts
    unfolding root_row_t pick numbered_t beside_t
    enters_decl number row r names' counts' g e q w = rw (eq-eqb _ _ h, eq-eqb _ _ g, ← e, ← q, ← w)

pub ruleset entering = (enters_inner, enters_other, enters_decl, rules)

-- ---- go_over

pub turn_is : (rows : List ℕ) (i : ℕ) (names : List Slot) (counts : List (List ℕ)) (c : Cursor) (p : Parts) (used depth : ℕ) (names' : List Slot) (counts' : List (List ℕ)) → p ≡ parts_at rows i
    → (used & names' & counts') ≡ root_row_t p i c.depth c.used names counts → depth ≡ depth_t c.depth p.code
    → (record { depth = depth; used = used } & names' & counts') ≡ turn_t (parts_at rows i) i names counts c
unfolding turn_t root_behind_t
turn_is rows i names counts c p used depth names' counts' e w q = rw (← e, ← w, q)

-- ---- enter_root

pub root_start : (rows : List ℕ) (names : List Slot) → root_rows_t 0 names (replicate 1 (replicate 13 0)) (record { depth = 0; used = 0 }) (rows_at rows 0) ≡ root_t names (rows_at rows 0)
unfolding root_t
root_start rows names = refl

module _ (rows : List ℕ) (i : ℕ) (names : List Slot) (counts : List (List ℕ)) (c : Cursor) (T : Out ℕ (List Slot)) (inv : root_rows_t i names counts c (rows_at rows i) ≡ T) where
  pub root_end : length rows / 16 ≤ i → (c.used & names) ≡ T
  unfolding root_rows_t
  root_end h = rw (rows_past rows i h) at inv

  pub root_turn : (d : Cursor) (names' : List Slot) (counts' : List (List ℕ)) → i < length rows / 16 → (d & names' & counts') ≡ turn_t (parts_at rows i) i names counts c
      → root_rows_t (i + 1) names' counts' d (rows_at rows (i + 1)) ≡ T
  unfolding root_rows_t then_t
  root_turn d names' counts' h w = rw (rows_there rows i h, ← w) at inv

pub ruleset turns = (root_start, root_end, root_turn, rules)
