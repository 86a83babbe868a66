-- The ways through the code that makes the tables of a form, and reads them.
use mathlib.Core.Path.{◌≡◌, refl, sym, ◌∙◌}
use mathlib.Core.Bool.{true, false, ◌&&◌}
use mathlib.Core.Logic.{◌⊎◌, inl, inr}
use mathlib.Core.List.{List}
use native.Mathlib.Omega.{arith}
use native.Mathlib.Numerals.{add-one}
use Prim.Native.Nat.{ℕ, ◌+◌, ◌-◌, ◌≤◌, ◌<◌}
use borrow.Author.Rules.{rules}
use lib.Dec.{eqb}
use lib.ListN.{length, get_or, set}
use lib.Seq.{set_out, get_or-set_same, get_or-set_other}
use Rattle.kit.specs.Pick.{pick}
use Rattle.kit.proofs.Laws.{yes!, no!, tests, past, lt_or_le}
use Rattle.row_parts.specs.Parts.{code_at, b_at}
use Rattle.scopes.specs.Scopes.{level_above, scope_above, scope_of}
use Rattle.scopes.specs.Tables.{stands, count_of, Scopes, Counts}
use Rattle.scopes.proofs.ScopedLaws.{above_found, above_on, scope_least, scope_further, scope_most, count_most}

pub put_past : (table : List ℕ) (i v : ℕ) → length table ≤ i → table ≡ set table i v
put_past table i v h = sym (set_out table i v h)

pub ruleset table_ways = (past, put_past, rules)

-- ---- the scope of the row behind

module _ (form : List ℕ) (row c : ℕ) (code : c ≡ code_at form row) where
  pub behind_open : c ≡ 7 → row + 1 ≡ scope_of form (row + 1)
  unfolding scope_of
  behind_open h = let e : eqb (code_at form row) 7 ≡ true = omega tests in rw (add-one row) (sym (above_found form row 0 (rw e)))

  module _ (n : c ≡ 7 → ⊥) (around : ℕ) (s : around ≡ scope_of form row) where
    on : scope_of form (row + 1) ≡ scope_above form row (level_above 0 c)
    unfolding scope_of
    on = let e : eqb (code_at form row) 7 ≡ false = omega tests in rw (add-one row, code) (above_on form row 0 (rw e))

    pub behind_other : (c ≡ 8 → ⊥) → around ≡ scope_of form (row + 1)
    unfolding scope_of level_above
    behind_other m =
        let l : level_above 0 c ≡ 0 = sym (no! _ (omega tests) (no! _ (omega tests) refl)) in
        s ∙ sym (on ∙ rw l)

    module _ (m : c ≡ 8) where
      closed : scope_of form (row + 1) ≡ pick (eqb around 0) 0 (scope_above form (around - 1) 0)
      unfolding scope_of level_above
      closed =
          let l : level_above 0 c ≡ 1 = sym (yes! _ (omega tests) refl) in
          on ∙ rw l (scope_further form row 0 around s)

      pub behind_outermost : around ≤ 0 → 0 ≡ scope_of form (row + 1)
      behind_outermost h = yes! _ (omega tests) refl ∙ sym closed

      pub behind_close : (scopes : List ℕ) → Scopes form scopes row → 0 < around → (r : ℕ) → r ≡ get_or scopes (around - 1) 0 → r ≡ scope_of form (row + 1)
      unfolding Scopes scope_of
      behind_close scopes t h r e = let i = scope_least form row 0 in e ∙ t (around - 1) (omega arith) ∙ no! _ (omega tests) refl ∙ sym closed

pub ruleset behind_ways = (behind_open, behind_other, behind_outermost, behind_close, rules)

pub scope_first : (form : List ℕ) → 0 ≡ scope_of form 0
unfolding scope_of scope_above
scope_first form = refl

module _ (form known : List ℕ) where
  pub scopes_none : Scopes form known 0
  unfolding Scopes
  scopes_none i h = absurd (omega arith)

  module _ (row : ℕ) (t : Scopes form known row) where
    pub scopes_all : 4096 ≤ row → Scopes form known 4096
    unfolding Scopes
    scopes_all h i m = t i (omega arith)

    pub scopes_on : row < length known → (v : ℕ) (after : List ℕ) → after ≡ set known row v → v ≡ scope_of form row → Scopes form after (row + 1)
    unfolding Scopes
    scopes_on l v after s q i h = by (lt_or_le i row)
      where
        by : (i < row) ⊎ (row ≤ i) → get_or after i 0 ≡ scope_of form i
        by (inl k) = rw s (get_or-set_other known row i v 0 (λ e. omega (arith, e)) ∙ t i k)
        by (inr k) = let e : i ≡ row = omega arith in rw (e, s) (get_or-set_same known row v 0 l ∙ q)

pub ruleset scopes_ways = (scopes_none, scope_first, scopes_all, scopes_on, rules)

module _ (form known : List ℕ) (t : 0 < length known → Scopes form known 4096) (n : length known ≡ 0 → ⊥) (row r : ℕ) (h : row < 4096) (q : r ≡ get_or known row 0) where
  pub scope_there : (r ≡ scope_of form row) × (r ≤ row)
  unfolding Scopes
  scope_there =
      let m = scope_most form row in
      let e : r ≡ scope_of form row = q ∙ t (omega arith) row h in
      (e, omega arith)

-- ---- declarations

pub stands_is : (form : List ℕ) (scope space row s c b : ℕ) → s ≡ scope_of form row → c ≡ code_at form row → b ≡ b_at form row → (eqb s scope && eqb c 2 && eqb b space) ≡ stands form scope space row
unfolding stands
stands_is form scope space row s c b hs hc hb = rw (hs, hc, hb)

module _ (form known : List ℕ) (row r : ℕ) (t : Counts form known (row + 1)) (q : r ≡ get_or known (4096 + row) 0) where
  pub count_there : r ≡ count_of form row
  unfolding Counts
  count_there = q ∙ t row (omega arith)

  pub count_there_most : r ≤ row
  unfolding count_of
  count_there_most = let m = count_most form (scope_of form row) (b_at form row) row in let e = count_there in omega arith

module _ (form known : List ℕ) where
  pub counts_none : Counts form known 0
  unfolding Counts
  counts_none i h = absurd (omega arith)

  pub counts_below : (to less : ℕ) → Counts form known to → less ≤ to → Counts form known less
  unfolding Counts
  counts_below to less t h i m = t i (omega arith)

  module _ (row v : ℕ) (after : List ℕ) (s : after ≡ set known (4096 + row) v) where
    pub scopes_kept : Scopes form known 4096 → Scopes form after 4096
    unfolding Scopes
    scopes_kept t i h = rw s (get_or-set_other known (4096 + row) i v 0 (omega arith) ∙ t i h)

    pub counts_on : Counts form known row → 4096 + row < length known → v ≡ count_of form row → Counts form after (row + 1)
    unfolding Counts
    counts_on t l q i h = by (lt_or_le i row)
      where
        by : (i < row) ⊎ (row ≤ i) → get_or after (4096 + i) 0 ≡ count_of form i
        by (inl k) = rw s (get_or-set_other known (4096 + row) (4096 + i) v 0 (omega arith) ∙ t i k)
        by (inr k) = let e : i ≡ row = omega arith in rw (e, s) (get_or-set_same known (4096 + row) v 0 l ∙ q)

pub ruleset count_ways = (stands_is, count_there, count_there_most, rules)
