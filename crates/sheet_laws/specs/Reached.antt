-- What a reference of a resolved form means in the end, on the rows, is the declaration that it reaches by the rules.
use Rattle.std.specs.Prelude.{◌≡◌, Bool, ℕ, Option as CodeOption}
use Rattle.std.proofs.Math.Path.{refl, ap, subst}
use Rattle.std.proofs.Common.{sym, ◌∙◌}
use Rattle.std.proofs.Math.Bool.{true, false}
use Rattle.std.proofs.Math.Option.{Option, none, some}
use mathlib.Core.List.{List, [], ◌∷◌}
use Rattle.std.proofs.Math.Dec.{eqb}
use Rattle.std.proofs.Math.ListN.{get_elem?}
use Rattle.kit.specs.Pick.{pick}
use Rattle.rules.specs.Tools.{when◌then◌else◌, ◌then◌}
use Rattle.rules.specs.Versions.{RuleSet}
use Rattle.rules.specs.Rows.{Num, Id}
use Rattle.rules.specs.Tree.{Operand, ref, outer, case, Scope}
use Rattle.rules.specs.Good.{GoodScope}
use Rattle.rules.specs.Readings.{Place, Spot, original, inserted}
use Rattle.rules.specs.Laws.ToolLaws.{eqb-true, false_not}
use Rattle.rules.proofs.Laws.Output.Numbers.{Numbered, NumberedScope}
use Rattle.places.specs.PlaceRows.{Floor, operand_at, row_of_operand, Located, counted_row}
use Rattle.places.specs.Counting.{spot_of, of_space_all}
use Rattle.places.proofs.RowAt.{all_at}
use Rattle.readings.specs.Meaning.{final_meaning}
use Rattle.reading_laws.specs.Said.{said, said_in, said_out, said_behind, said_end, said_from, sought}
use Rattle.reading_laws.specs.Operands.{operand_used}
use Rattle.reading_laws.specs.Meant.{Rows, use_there}
use Rattle.reading_laws.specs.Whole.{named, ref_row}
use Rattle.reading_laws.specs.Counted.{OfNumbers, Counts, AliasesCount, numbered_aliases, operand_numbered}
use Rattle.binding.specs.Sheet.{as_written, elsewhere, is_ref_at, outer_to, follow, reached_from, reached, bound_to}
use Rattle.bound.specs.Bound as code
use Rattle.bound.specs.declared.Binding.TheVariants.{AsWritten, Elsewhere}
use Rattle.slots.specs.Slots.{ruled}
use Rattle.readings.specs.declared.Meaning.{Meaning}

-- ---- what the tree says of a number, and what the sheet's rules reach by it

-- the row and the name of that declaration; or nothing
record Tells (m : CodeOption Meaning) (o : Option Located) : Type 0 where
  n : ℕ
  away : ℕ
  is : m ≡ said o n away

module _ (fs : List Floor) where
  tells_in : (o : Option Floor) (up space n : ℕ) → Tells (said_in o up space n) (o then λ f. counted_row f space n)
  unfolding said_in said ◌then◌
  tells_in none up space n = record { n = 0; away = 0; is = refl }
  tells_in (some f) up space n = record { n = n; away = up; is = refl }

  tells_out : (os : List Operand) (m : CodeOption Meaning) → OfNumbers os → Tells (said_out fs os m) (outer_to fs os)
  unfolding said_out outer_to
  tells_out os m O = subst (λ (os : List Operand). Tells (said_out fs os m) (outer_to fs os)) (sym O.are) (tells_in (get_elem? fs O.up) O.up O.space O.n)

  tells_behind : (x : Located) (n : ℕ) (m : CodeOption Meaning) (spot : Spot) → Counts spot → Tells (said_behind fs spot (said (some x) n 0) m) (follow fs spot x)
  unfolding said_behind follow when◌then◌else◌
  tells_behind x n m (original field at) c = record { n = n; away = 0; is = refl }
  tells_behind x n m (inserted h) c = go (eqb h.code 11) refl
    where
      go : (b : Bool) → eqb h.code 11 ≡ b → Tells (when b then said_out fs h.operands m else said (some x) n 0) (when b then outer_to fs h.operands else some x)
      go true e = tells_out h.operands m (c (eqb-true h.code 11 e))
      go false e = record { n = n; away = 0; is = refl }

tells_number : (f : Floor) (rest : List Floor) → AliasesCount f → (m : Located → CodeOption Meaning) (space n z : ℕ) → Tells (said_from (f ∷ rest) m 0 space n 0) (reached_from (f ∷ rest) (ref space (Num n) [] z))
unfolding said_from said_end reached_from counted_row ◌then◌
tells_number f rest counts m space n z = go (counted_row f space n) refl
  where
    go : (o : Option Located) → counted_row f space n ≡ o → Tells (said_end (f ∷ rest) m o n 0) (o then λ x. follow (f ∷ rest) x.standing.spot x)
    go none e = record { n = 0; away = 0; is = unfold said in refl }
    go (some x) e = tells_behind (f ∷ rest) x n (m x) (spot_of x) (all_at _ n x (of_space_all _ space counts) e)

-- ---- on rows

-- a reference that holds numbers only
number_ref : (z : ℕ) (o : Operand) → is_ref_at z o ≡ true → Numbered o → (space : ℕ) × (n : ℕ) × (y : ℕ) × (o ≡ ref space (Num n) [] y)
unfolding is_ref_at
number_ref z (ref space (Num n) [] y) e m = (space, n, y, refl)
number_ref z (ref space (Num n) (p ∷ ps) y) e m = absurd m
number_ref z (ref space (Id name) paths y) e m = absurd m
number_ref z (outer space up at y) e m = false_not e
number_ref z (case name y) e m = false_not e

module _ (form : List ℕ) (s : Scope) (rules : RuleSet) (good : GoodScope rules s) (R : Rows form s) (numbered : NumberedScope s) (p : Place) (r : ℕ) (at : row_of_operand s p ≡ some r) where
  final_tells : (z : ℕ) (o : Operand) → operand_at s p ≡ some o → is_ref_at z o ≡ true → Tells (final_meaning form r) (reached s p)
  unfolding reached sought pick ◌then◌
  final_tells z o e is =
      let U = use_there form s R p r at in
      let same : U.operand ≡ o = operand_used form s p r U o e in
      let N = number_ref z o is (subst Numbered same (operand_numbered form s rules good R p r at numbered)) in
      let there : operand_at s p ≡ some (ref N.0 (Num N.1) [] N.2) = e ∙ ap (λ (o : Operand). some o) N.3 in
      let counts = numbered_aliases rules s good numbered p.way U.f U.rest U.are in
      let means : final_meaning form r ≡ said_from (U.f ∷ U.rest) (named form) 0 N.0 N.1 0 = (ref_row form s rules good R p r at N.0 N.1 [] N.2 there).1 in
      let reaches : reached s p ≡ reached_from (U.f ∷ U.rest) (ref N.0 (Num N.1) [] N.2) = rw (U.used_as, U.are) (ap (reached_from (U.f ∷ U.rest)) (same ∙ N.3)) in
      let T = tells_number U.f U.rest counts (named form) N.0 N.1 N.2 in
      record { n = T.n; away = T.away; is = means ∙ (T.is ∙ ap (λ (o : Option Located). said o T.n T.away) (sym reaches)) }

bound_is : (o : Option Located) (n away name : ℕ) → ruled (code.bound_to (said o n away) name) ≡ bound_to name o
unfolding said code.bound_to bound_to pick when◌then◌else◌
bound_is none n away name = refl
bound_is (some x) n away name = go (eqb x.standing.decl.name name)
  where
    go : (b : Bool) → ruled (pick b AsWritten (Elsewhere x.row)) ≡ (when b then as_written else elsewhere x.row)
    go true = refl
    go false = refl

-- What the reference in a row is bound to is what the rules say of its place.
pub bound_agrees : (form : List ℕ) (s : Scope) (rules : RuleSet) → GoodScope rules s → Rows form s → NumberedScope s → (p : Place) (r : ℕ) → row_of_operand s p ≡ some r → (z : ℕ) (o : Operand) → operand_at s p ≡ some o → is_ref_at z o ≡ true
    → (name : ℕ) → ruled (code.bound_at form r name) ≡ bound_to name (reached s p)
unfolding code.bound_at
bound_agrees form s rules good R numbered p r at z o e is name =
    let T = final_tells form s rules good R numbered p r at z o e is in
    ap (λ (m : CodeOption Meaning). ruled (code.bound_to m name)) T.is ∙ bound_is (reached s p) T.n T.away name
