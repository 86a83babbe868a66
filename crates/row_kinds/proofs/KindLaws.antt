-- Single rows and counts: each law is one unfolding of a definition, with the facts in the form in which the code gives them.
use mathlib.Core.Path.{◌≡◌, refl, sym}
use mathlib.Core.Bool.{Bool, true, false, ◌&&◌, ◌||◌}
use mathlib.Core.List.{List}
use Prim.Native.Nat.{ℕ, ◌+◌, ◌≤◌, ◌<◌}
use borrow.Author.Rules.{rules}
use lib.Dec.{eqb, leb}
use Rattle.kit.specs.Pick.{pick}
use Rattle.kit.proofs.Laws.{yes!, no!, tests}
use Rattle.rules.specs.Readings.{is_fresh}
use Rattle.row_bytes.specs.Parts.{code_at, x_at}
use Rattle.row_kinds.specs.Kinds.{is_inserted, is_reference, next_of, count_on}

module _ (row : ℕ) where
  pub next_in_lem : row < 65535 → row + 1 ≡ next_of row
  unfolding next_of
  next_in_lem h = yes! _ (omega tests) refl

  pub next_last : 65535 ≤ row → row ≡ next_of row
  unfolding next_of
  next_last h = no! _ (omega tests) refl

module _ (form : List ℕ) (row c : ℕ) (code : c ≡ code_at form row) where
  pub inserted_is : (x : ℕ) → x ≡ x_at form row → (eqb c 2 && leb 2147483648 x) ≡ is_inserted form row
  unfolding is_inserted is_fresh
  inserted_is x hx = rw (code, hx)

  pub reference_is : (eqb c 3 || eqb c 5) ≡ is_reference form row
  unfolding is_reference
  reference_is = rw code

module _ (count : ℕ) (more : Bool) where
  pub counted_highest : count ≡ 4294967295 → count ≡ count_on count more
  unfolding count_on
  counted_highest h = yes! _ (omega tests) refl

  module _ (n : count ≡ 4294967295 → ⊥) where
    pub counted_more : more ≡ true → count + 1 ≡ count_on count more
    unfolding count_on
    counted_more h = no! _ (omega tests) (yes! _ h refl)

    pub counted_same : more ≡ false → count ≡ count_on count more
    unfolding count_on
    counted_same h = no! _ (omega tests) (no! _ h refl)

-- below the highest count nothing stays
pub count_on_lem : (count : ℕ) (more : Bool) → count < 4294967295 → count_on count more ≡ pick more (count + 1) count
unfolding count_on
count_on_lem count more h = sym (no! _ (omega tests) refl)

pub ruleset kind_ways = (next_in_lem, next_last, inserted_is, reference_is, counted_highest, counted_more, counted_same, rules)
