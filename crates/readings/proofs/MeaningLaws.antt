-- The ways through the code that says what a reference means.
use Rattle.std.specs.Prelude.{Option, Some, None}
use mathlib.Core.Path.{◌≡◌, refl, ◌∙◌}
use mathlib.Core.Bool.{Bool, true, false}
use mathlib.Core.List.{List}
use Prim.Native.Nat.{ℕ}
use borrow.Author.Rules.{rules}
use Rattle.kit.proofs.Laws.{yes!, no!, tests}
use Rattle.row_parts.specs.Parts.{code_at, b_at, e_at, x_at, y_at, next_of}
use Rattle.scopes.specs.Scopes.{scope_of, find_in, scope_outward}
use Rattle.readings.specs.Meaning.{space_sought, is_walked, reading_of, is_outward, meant, in_scope, in_outer, outward_for, outer_wanted, index_key, through_outer, key_of, meaning_of, is_inserted_outer, behind, final_meaning}
use Rattle.scopes.specs.declared.Key.{Key}
use Rattle.scopes.specs.declared.Key.TheVariants.{Name}
use Rattle.scopes.specs.declared.Wanted.{Wanted}
use Rattle.scopes.specs.declared.Wanted.TheVariants.{Declaring}
use Rattle.readings.specs.declared.Reading.{Reading}
use Rattle.readings.specs.declared.Reading.TheVariants.{Outward, LookedUp, Counting}
use Rattle.readings.specs.declared.Meaning.{Meaning}
use Rattle.scopes.specs.declared.Found.{Found}
use Rattle.scopes.specs.declared.Outer.{Outer}

-- ---- readings

module _ (form : List ℕ) (row e : ℕ) (flag : e ≡ e_at form row) where
  pub reading_counting : e ≡ 0 → Counting ≡ reading_of form row
  unfolding reading_of
  reading_counting h = yes! _ (omega tests) refl

  module _ (n : e ≡ 0 → ⊥) (w : Bool) (walked : w ≡ is_walked form row) where
    pub reading_outward : w ≡ true → Outward ≡ reading_of form row
    unfolding reading_of
    reading_outward h = no! _ (omega tests) (yes! _ (rw (← walked) h) refl)

    pub reading_looked_up : w ≡ false → LookedUp ≡ reading_of form row
    unfolding reading_of
    reading_looked_up h = no! _ (omega tests) (no! _ (rw (← walked) h) refl)

module _ (form : List ℕ) (row : ℕ) (r : Reading) (got : r ≡ reading_of form row) where
  pub outward_yes : r ≡ Outward → true ≡ is_outward (reading_of form row)
  outward_yes q = rw (← got, q)

  pub outward_looked_up : r ≡ LookedUp → false ≡ is_outward (reading_of form row)
  outward_looked_up q = rw (← got, q)

  pub outward_counting : r ≡ Counting → false ≡ is_outward (reading_of form row)
  outward_counting q = rw (← got, q)

-- ---- meanings

module _ (form : List ℕ) (f : Option Found) (out : ℕ) where
  pub meant_at : (found : Found) (x : ℕ) → f ≡ Some found → x ≡ x_at form found.row → Some (record { row = found.row; number = found.number; out = out; name = x }) ≡ meant form f out
  unfolding meant
  meant_at found x q h = rw (q, h)

  pub meant_nothing : f ≡ None → (X : Option Meaning) → X ≡ None → X ≡ meant form f out
  unfolding meant
  meant_nothing q X x = x ∙ rw q

  pub meant_in_lem : (scope space : ℕ) (key : Key) → f ≡ find_in form scope space key → (X : Option Meaning) → X ≡ meant form f out → X ≡ in_scope form scope out space key
  unfolding in_scope
  meant_in_lem scope space key q X e = e ∙ rw q

module _ (form : List ℕ) (row space name s : ℕ) (around : s ≡ scope_of form row) (o : Option Outer) (got : o ≡ scope_outward form s (Declaring space name)) where
  pub outward_at : (outer : Outer) → o ≡ Some outer → (X : Option Meaning) → X ≡ in_scope form outer.scope outer.out space (Name name) → X ≡ outward_for form row space name
  unfolding outward_for in_outer
  outward_at outer q X x = x ∙ rw (← around, ← got, q)

  pub outward_nowhere : o ≡ None → (X : Option Meaning) → X ≡ None → X ≡ outward_for form row space name
  unfolding outward_for in_outer
  outward_nowhere q X x = x ∙ rw (← around, ← got, q)

module _ (form : List ℕ) (row e x s : ℕ) (flags : e ≡ e_at form row) (up : x ≡ x_at form row) (around : s ≡ scope_of form row) (w : Wanted) (wanted : w ≡ outer_wanted e x) (o : Option Outer) (got : o ≡ scope_outward form s w) where
  pub through_at : (outer : Outer) → o ≡ Some outer → (b y : ℕ) (k : Key) → b ≡ b_at form row → y ≡ y_at form row → k ≡ index_key e y → (X : Option Meaning) → X ≡ in_scope form outer.scope outer.out b k → X ≡ through_outer form row
  unfolding through_outer in_outer
  through_at outer q b y k hb hy hk X h = h ∙ rw (← flags, ← up, ← around, ← wanted, ← got, q, hk, hb, hy)

  pub through_nowhere : o ≡ None → (X : Option Meaning) → X ≡ None → X ≡ through_outer form row
  unfolding through_outer in_outer
  through_nowhere q X x = x ∙ rw (← flags, ← up, ← around, ← wanted, ← got, q)

module _ (form : List ℕ) (row c : ℕ) (code : c ≡ code_at form row) (X : Option Meaning) where
  pub meaning_outer : c ≡ 5 → X ≡ through_outer form row → X ≡ meaning_of form row
  unfolding meaning_of
  meaning_outer h x = yes! _ (omega tests) x

  module _ (n : c ≡ 5 → ⊥) (space : ℕ) (sought : space ≡ space_sought form row) (o : Bool) (outward : o ≡ is_outward (reading_of form row)) where
    pub meaning_outward : o ≡ true → (name : ℕ) → name ≡ x_at form row → X ≡ outward_for form row space name → X ≡ meaning_of form row
    unfolding meaning_of
    meaning_outward h name hn x = no! _ (omega tests) (yes! _ (rw (← outward) h) (x ∙ rw (sought, hn)))

    pub meaning_here : o ≡ false → (s : ℕ) → s ≡ scope_of form row → (k : Key) → k ≡ key_of form row → X ≡ in_scope form s 0 space k → X ≡ meaning_of form row
    unfolding meaning_of
    meaning_here h s hs k hk x = no! _ (omega tests) (no! _ (rw (← outward) h) (x ∙ rw (sought, hs, hk)))

module _ (form : List ℕ) (row : ℕ) (m : Option Meaning) (got : m ≡ meaning_of form row) where
  module _ (meaning : Meaning) (at : m ≡ Some meaning) (i : Bool) (alias : i ≡ is_inserted_outer form meaning.row) where
    pub final_behind : i ≡ true → (n : ℕ) → n ≡ next_of meaning.row → (X : Option Meaning) → X ≡ through_outer form n → X ≡ final_meaning form row
    unfolding final_meaning behind
    final_behind h n hn X x = rw (← got, at) (yes! _ (rw (← alias) h) (x ∙ rw hn))

    pub final_itself : i ≡ false → Some meaning ≡ final_meaning form row
    unfolding final_meaning behind
    final_itself h = rw (← got, at) (no! _ (rw (← alias) h) refl)

  pub final_nowhere : m ≡ None → (X : Option Meaning) → X ≡ None → X ≡ final_meaning form row
  unfolding final_meaning behind
  final_nowhere q X x = x ∙ rw (← got, q)

pub ruleset final_ways = (final_behind, final_itself, final_nowhere, rules)

pub ruleset meaning_ways = (reading_counting, reading_outward, reading_looked_up, outward_yes, outward_looked_up, outward_counting, meant_at, meant_nothing, meant_in_lem, outward_at, outward_nowhere, through_at, through_nowhere, meaning_outer, meaning_outward, meaning_here, rules)
