-- The ways through the code that reads fields: each law is one unfolding of a twin, with the facts in the form in which the code gives them.
use mathlib.Core.Path.{◌≡◌, refl, ◌∙◌}
use mathlib.Core.Bool.{Bool, ◌&&◌, ◌||◌, not}
use mathlib.Core.List.{List}
use native.Mathlib.Omega.{arith}
use Prim.Native.Nat.{ℕ, zero, suc, ◌+◌, ◌-◌, ◌≤◌, ◌<◌}
use borrow.Author.Rules.{rules}
use lib.Dec.{eqb}
use Rattle.kit.specs.Pick.{pick}
use Rattle.kit.proofs.Laws.{yes!, no!, tests, left_suc}
pub use Rattle.row_kinds.proofs.KindLaws.{count_on_lem}
use Rattle.row_parts.specs.Parts.{code_at, b_at, e_at, rows_in, is_inserted, next_of, field_of, is_typed, is_ascribed, inserted_from, inserted_in}

-- one row up
field_step : (form : List ℕ) (above : ℕ) → 0 < above → pick (eqb (code_at form above) 1) above (field_of form (above - 1)) ≡ field_of form above
unfolding field_of
field_step form zero h = absurd (omega arith)
field_step form (suc above) h = let e : suc above - 1 ≡ above = omega arith in rw e

module _ (form : List ℕ) (above T : ℕ) (inv : field_of form above ≡ T) where
  pub field_end_lem : above ≤ 0 → 0 ≡ T
  unfolding field_of
  field_end_lem h = let e : above ≡ 0 = omega arith in rw e at inv

  -- the row that is looked at is the one behind the row to which the search goes up
  module _ (h : 0 < above) (c : ℕ) (code : c ≡ code_at form (above - 1 + 1)) where
    here : c ≡ code_at form above
    here = let e : above - 1 + 1 ≡ above = omega arith in rw e at code

    pub field_hit : c ≡ 1 → above - 1 + 1 ≡ T
    field_hit e = let up : above - 1 + 1 ≡ above = omega arith in up ∙ (yes! _ (omega (tests, here)) refl ∙ field_step form above h ∙ inv)

    pub field_on : (c ≡ 1 → ⊥) → field_of form (above - 1) ≡ T
    field_on e = no! _ (omega (tests, here)) refl ∙ field_step form above h ∙ inv

-- ---- exports with an ascribed type

pub typed_is : (form : List ℕ) (field b e : ℕ) → b ≡ b_at form field → e ≡ e_at form field → (eqb b 22 && eqb e 1) ≡ is_typed form field
unfolding is_typed
typed_is form field b e hb he = rw (hb, he)

module _ (form : List ℕ) (row f n m s t c : ℕ) (w : Bool) (field : f ≡ field_of form row) (decl : n ≡ next_of f) (behind : m ≡ next_of row) where
  pub ascribed_is : s ≡ b_at form row → t ≡ b_at form n → w ≡ is_typed form f → c ≡ code_at form m → (w && (not (eqb s t) || eqb c 3)) ≡ is_ascribed form row
  unfolding is_ascribed
  ascribed_is hs ht hw hc = rw (hs, ht, hw, hc, decl, behind, field)

-- ---- inserted fields

pub inserted_start : (form : List ℕ) (rows : ℕ) → rows ≡ rows_in form → inserted_from form 0 (rows - 0) 0 ≡ inserted_in form
unfolding inserted_in
inserted_start form rows h = let e : rows - 0 ≡ rows_in form = omega arith in rw e

module _ (form : List ℕ) (rows row count T : ℕ) (inv : inserted_from form row (rows - row) count ≡ T) where
  pub inserted_end : rows ≤ row → count ≡ T
  unfolding inserted_from
  inserted_end h = let e : rows - row ≡ 0 = omega arith in rw e at inv

  pub inserted_turn : row < rows → (b : Bool) (n : ℕ) → b ≡ is_inserted form row → n ≡ pick b (count + 1) count → inserted_from form (row + 1) (rows - (row + 1)) n ≡ T
  unfolding inserted_from
  inserted_turn h b n hb hn = rw (hn, hb) (rw (left_suc row rows h) at inv)

pub ruleset part_ways = (typed_is, ascribed_is, rules)

-- The laws of a loop end in any `T`, so a search tries them everywhere: each loop has its own set.
pub ruleset field_ways = (field_end_lem, field_hit, field_on, rules)

pub ruleset inserted_ways = (inserted_start, inserted_end, rules)
