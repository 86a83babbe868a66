-- The ways through the code.
use Rattle.std.specs.Prelude.{Option, Some, None}
use mathlib.Core.Path.{◌≡◌, refl, ◌∙◌}
use mathlib.Core.Bool.{Bool, true, false, ◌&&◌, ◌||◌}
use mathlib.Core.List.{List}
use Prim.Native.Nat.{ℕ}
use borrow.Author.Rules.{rules}
use lib.Dec.{eqb, leb, ltb}
use Rattle.kit.proofs.Laws.{yes!, no!, tests}
use Rattle.row_parts.specs.Parts.{code_at, b_at, e_at, x_at, y_at, z_at}
use Rattle.scopes.specs.Scopes.{scope_of, find_in, scope_outward}
use Rattle.readings.specs.Meaning.{space_sought, outer_wanted}
use Rattle.scopes.specs.declared.Key.TheVariants.{Number as Numbered, Inserted}
use Rattle.scopes.specs.declared.Wanted.{Wanted}
use Rattle.scopes.specs.declared.Wanted.TheVariants.{Out}
use Rattle.numbers.specs.declared.Number.{Number}
use Rattle.numbers.specs.Entries.{is_written, numbered, number_at, scope_wanted, reaches, is_pushed, gets, gets_entry, gets_in, output_entry, meant_by, counted_entry, counted_in, entry_at}
use Rattle.numbers.specs.declared.Entry.TheVariants.{Moved, Apart}
use Rattle.numbers.specs.declared.Entry.{Entry}
use Rattle.scopes.specs.declared.Found.{Found}
use Rattle.scopes.specs.declared.Outer.{Outer}

-- ---- the number of a row

pub written_is : (form : List ℕ) (row c e : ℕ) → c ≡ code_at form row → e ≡ e_at form row → ((eqb c 3 && eqb e 0) || (eqb c 5 && ltb e 2)) ≡ is_written form row
unfolding is_written
written_is form row c e hc he = rw (hc, he)

module _ (form : List ℕ) (row c : ℕ) (code : c ≡ code_at form row) where
  module _ (z : ℕ) (place : z ≡ z_at form row) where
    pub number_outer : c ≡ 5 → (b y : ℕ) → b ≡ b_at form row → y ≡ y_at form row → numbered z b y ≡ number_at form row
    unfolding number_at
    number_outer h b y hb hy = yes! _ (omega tests) (rw (place, hb, hy))

    pub number_ref : (c ≡ 5 → ⊥) → (s x : ℕ) → s ≡ space_sought form row → x ≡ x_at form row → numbered z s x ≡ number_at form row
    unfolding number_at
    number_ref h s x hs hx = no! _ (omega tests) (rw (place, hs, hx))

  pub wanted_outer : c ≡ 5 → (e x : ℕ) → e ≡ e_at form row → x ≡ x_at form row → (w : Wanted) → w ≡ outer_wanted e x → w ≡ scope_wanted form row
  unfolding scope_wanted
  wanted_outer h e x he hx w hw = yes! _ (omega tests) (hw ∙ rw (he, hx))

  pub wanted_own : (c ≡ 5 → ⊥) → Out 0 ≡ scope_wanted form row
  unfolding scope_wanted
  wanted_own h = no! _ (omega tests) refl

-- ---- in the output

module _ (out : List ℕ) (scope : ℕ) (n : Number) where
  module _ (f : Option Found) (got : f ≡ find_in out scope n.space Inserted) where
    pub pushed_at : (found : Found) → f ≡ Some found → leb found.number n.number ≡ is_pushed out scope n
    unfolding is_pushed reaches
    pushed_at found q = rw (← got, q)

    pub pushed_not : f ≡ None → false ≡ is_pushed out scope n
    unfolding is_pushed reaches
    pushed_not q = rw (← got, q)

  module _ (meant : ℕ) (b : Bool) (pushed : b ≡ is_pushed out scope n) where
    pub gets_stays : b ≡ false → None ≡ gets_entry out scope n meant
    unfolding gets_entry
    gets_stays h = no! _ (rw (← pushed) h) refl

    module _ (h : b ≡ true) (f : Option Found) (got : f ≡ find_in out scope n.space (Numbered n.number)) where
      pub gets_moved : (found : Found) → f ≡ Some found → Some (Moved n.z n.space meant found.row) ≡ gets_entry out scope n meant
      unfolding gets_entry gets
      gets_moved found q = yes! _ (rw (← pushed) h) (rw (← got, q))

      pub gets_nothing : f ≡ None → (X : Option Entry) → X ≡ None → X ≡ gets_entry out scope n meant
      unfolding gets_entry gets
      gets_nothing q X x = yes! _ (rw (← pushed) h) (x ∙ rw (← got, q))

module _ (out : List ℕ) (at away : ℕ) (n : Number) (meant s : ℕ) (around : s ≡ scope_of out at) (o : Option Outer) (got : o ≡ scope_outward out s (Out away)) where
  pub output_at : (outer : Outer) → o ≡ Some outer → (X : Option Entry) → X ≡ gets_entry out outer.scope n meant → X ≡ output_entry out at away n meant
  unfolding output_entry gets_in
  output_at outer q X x = x ∙ rw (← around, ← got, q)

  pub output_nowhere : o ≡ None → (X : Option Entry) → X ≡ None → X ≡ output_entry out at away n meant
  unfolding output_entry gets_in
  output_nowhere q X x = x ∙ rw (← around, ← got, q)

-- ---- in the input

module _ (form : List ℕ) (scope away : ℕ) (n : Number) (out : List ℕ) (at : ℕ) (f : Option Found) (got : f ≡ find_in form scope n.space (Numbered n.number)) where
  pub counted_at : (found : Found) → f ≡ Some found → (X : Option Entry) → X ≡ output_entry out at away n found.row → X ≡ counted_entry form scope away n out at
  unfolding counted_entry meant_by
  counted_at found q X x = x ∙ rw (← got, q)

  pub counted_apart : f ≡ None → Some (Apart n.z n.space n.number) ≡ counted_entry form scope away n out at
  unfolding counted_entry meant_by
  counted_apart q = rw (← got, q)

module _ (form : List ℕ) (row : ℕ) (out : List ℕ) (at : ℕ) (b : Bool) (written : b ≡ is_written form row) where
  pub entry_none : b ≡ false → None ≡ entry_at form row out at
  unfolding entry_at
  entry_none h = no! _ (rw (← written) h) refl

  module _ (h : b ≡ true) (s : ℕ) (around : s ≡ scope_of form row) (w : Wanted) (wanted : w ≡ scope_wanted form row) (o : Option Outer) (got : o ≡ scope_outward form s w) where
    pub entry_at_lem : (outer : Outer) → o ≡ Some outer → (n : Number) → n ≡ number_at form row → (X : Option Entry) → X ≡ counted_entry form outer.scope outer.out n out at → X ≡ entry_at form row out at
    unfolding entry_at counted_in
    entry_at_lem outer q n hn X x = yes! _ (rw (← written) h) (x ∙ rw (← around, ← wanted, ← got, q, hn))

    pub entry_nowhere : o ≡ None → (X : Option Entry) → X ≡ None → X ≡ entry_at form row out at
    unfolding entry_at counted_in
    entry_nowhere q X x = yes! _ (rw (← written) h) (x ∙ rw (← around, ← wanted, ← got, q))

pub ruleset ways = (written_is, number_outer, number_ref, wanted_outer, wanted_own, pushed_at, pushed_not, gets_stays, gets_moved, gets_nothing, output_at, output_nowhere, counted_at, counted_apart, entry_none, entry_at_lem, entry_nowhere, rules)
