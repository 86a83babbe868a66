-- The ways through the code.
use Rattle.std.specs.Prelude.{Option, Some, None}
use mathlib.Core.Path.{◌≡◌, refl, ◌∙◌}
use mathlib.Core.Bool.{Bool, true, false, not}
use mathlib.Core.Logic.{◌⊎◌, inl, inr}
use mathlib.Core.List.{List}
use native.Mathlib.Omega.{arith}
use Prim.Native.Nat.{ℕ, max, ◌+◌, ◌-◌, ◌≤◌, ◌<◌}
use borrow.Author.Rules.{rules}
use Rattle.kit.proofs.Laws.{yes!, no!, tests, left_suc, lt_or_le}
use Rattle.row_parts.specs.Parts.{code_at, z_at, is_inserted, rows_in}
use Rattle.readings.specs.Meaning.{final_meaning}
use Rattle.bound.specs.declared.Reference.{Reference}
use Rattle.bound.specs.declared.Reference.TheVariants.{Nothing, At, Several as Many}
use Rattle.bound.specs.declared.Binding.{Binding}
use Rattle.bound.specs.declared.Binding.TheVariants.{AsWritten, Elsewhere, NoReference, Several}
use Rattle.bound.specs.Bound.{is_reference, next_from, next_reference, reference_at, bound_to, bound_at, bound_by, binding_of}
use Rattle.readings.specs.declared.Meaning.{Meaning}

-- ---- the references at a place

module _ (form : List ℕ) (row place c : ℕ) (code : c ≡ code_at form row) where
  pub not_a_ref : (c ≡ 3 → ⊥) → false ≡ is_reference form row place
  unfolding is_reference
  not_a_ref h = no! _ (omega tests) refl

  module _ (h : c ≡ 3) (z : ℕ) (stands : z ≡ z_at form row) where
    pub not_there : (z ≡ place → ⊥) → false ≡ is_reference form row place
    unfolding is_reference
    not_there n = yes! _ (omega tests) (no! _ (omega tests) refl)

    pub there : z ≡ place → (b : ℕ) → b ≡ row - 1 → (i : Bool) → i ≡ is_inserted form b → not i ≡ is_reference form row place
    unfolding is_reference
    there e b hb i hi = yes! _ (omega tests) (yes! _ (omega tests) (rw (hi, hb)))

pub next_start : (form : List ℕ) (place row rows : ℕ) → rows ≡ rows_in form → next_from form place row (rows - row) ≡ next_reference form place row
unfolding next_reference
next_start form place row rows h = rw h

module _ (form : List ℕ) (place row rows T : ℕ) (inv : next_from form place row (rows - row) ≡ T) where
  next_end : rows ≤ row → row ≡ T
  unfolding next_from
  next_end h = let e : rows - row ≡ 0 = omega arith in rw e at inv

  module _ (h : row < rows) (b : Bool) (is : b ≡ is_reference form row place) where
    pub next_here : b ≡ true → row ≡ T
    unfolding next_from
    next_here e = yes! _ (rw (← is) e) refl ∙ (rw (left_suc row rows h) at inv)

    pub next_on : b ≡ false → next_from form place (row + 1) (rows - (row + 1)) ≡ T
    unfolding next_from
    next_on e = no! _ (rw (← is) e) refl ∙ (rw (left_suc row rows h) at inv)

-- past the last row, which may be above where the search began
module _ (form : List ℕ) (place from row rows : ℕ) (h : rows ≡ rows_in form) (inv : next_from form place row (rows - row) ≡ next_reference form place from) where
  pub next_last : rows ≤ row → (from ≤ rows → row ≤ rows) → (m : ℕ) → m ≡ max from rows → m ≡ next_reference form place from
  unfolding next_reference next_from
  next_last past up m e = by (lt_or_le rows from)
    where
      by : (rows < from) ⊎ (from ≤ rows) → m ≡ next_reference form place from
      by (inl lt) = let none : rows_in form - from ≡ 0 = omega (arith, h) in let q : m ≡ from = omega (arith, e) in rw (none, q)
      by (inr le) = let u = up le in let q : m ≡ row = omega (arith, e) in q ∙ next_end form place row rows (next_reference form place from) inv past

pub ruleset row_ways = (not_a_ref, not_there, there, next_start, next_last, next_here, next_on, rules)

module _ (form : List ℕ) (place rows row : ℕ) (all : rows ≡ rows_in form) (first : row ≡ next_reference form place 0) where
  pub at_none : rows ≤ row → Nothing ≡ reference_at form place
  unfolding reference_at
  at_none h = rw (← all, ← first) (yes! _ (omega tests) refl)

  module _ (h : row < rows) (other : ℕ) (second : other ≡ next_reference form place (row + 1)) where
    pub at_one : rows ≤ other → At row ≡ reference_at form place
    unfolding reference_at
    at_one e = rw (← all, ← first) (no! _ (omega tests) (rw (← second) (yes! _ (omega tests) refl)))

    pub at_several : other < rows → Many ≡ reference_at form place
    unfolding reference_at
    at_several e = rw (← all, ← first) (no! _ (omega tests) (rw (← second) (no! _ (omega tests) refl)))

pub ruleset place_ways = (at_none, at_one, at_several, rules)

-- ---- what it is bound to

module _ (form : List ℕ) (row name : ℕ) (m : Option Meaning) (got : m ≡ final_meaning form row) where
  module _ (meaning : Meaning) (at : m ≡ Some meaning) where
    pub bound_written : meaning.name ≡ name → AsWritten ≡ bound_at form row name
    unfolding bound_at bound_to
    bound_written h = rw (← got, at) (yes! _ (omega tests) refl)

    pub bound_elsewhere : (meaning.name ≡ name → ⊥) → Elsewhere meaning.row ≡ bound_at form row name
    unfolding bound_at bound_to
    bound_elsewhere h = rw (← got, at) (no! _ (omega tests) refl)

  pub bound_nowhere : m ≡ None → Elsewhere 0 ≡ bound_at form row name
  unfolding bound_at bound_to
  bound_nowhere q = rw (← got, q)

module _ (form : List ℕ) (place name : ℕ) (r : Reference) (got : r ≡ reference_at form place) where
  pub binding_none : r ≡ Nothing → NoReference ≡ binding_of form place name
  unfolding binding_of bound_by
  binding_none q = rw (← got, q)

  pub binding_one : (row : ℕ) → r ≡ At row → (X : Binding) → X ≡ bound_at form row name → X ≡ binding_of form place name
  unfolding binding_of bound_by
  binding_one row q X x = x ∙ rw (← got, q)

  pub binding_several : r ≡ Many → Several ≡ binding_of form place name
  unfolding binding_of bound_by
  binding_several q = rw (← got, q)

pub ruleset binding_ways = (bound_written, bound_elsewhere, bound_nowhere, binding_none, binding_one, binding_several, rules)
