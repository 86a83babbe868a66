-- The counting reading on rows is that of the rules, for every number at every place: the rows give a place's declaration exactly where the
-- rules give that place. Where the rules give none, the rows give an inserted field's declaration, which has no place, or nothing.
use Rattle.std.specs.Prelude.{◌≡◌, Bool, eqb, Option as CodeOption}
use Rattle.std.proofs.Math.Path.{refl, ap, subst}
use Rattle.std.proofs.Common.{sym, ◌∙◌}
use Rattle.std.proofs.Math.Bool.{true, false}
use Rattle.std.proofs.Math.Option.{Option, none, some, map}
use mathlib.Core.List.{List, [], ◌∷◌, ◌++◌}
use Prim.Native.Nat.{ℕ, zero, suc, ◌+◌}
use Rattle.std.proofs.Math.ListN.{length, get_elem?}
use Rattle.kit.specs.Pick.{pick}
use Rattle.rules.specs.Tools.{when◌then◌else◌, ◌then◌}
use Rattle.rules.specs.Versions.{RuleSet}
use Rattle.rules.specs.Rows.{Index, Num, Id}
use Rattle.rules.specs.Tree.{Declaration, Operand, ref, outer, case, Head, Scope, scope, Fields, end, ◌▸◌, Item, plain, holds, head_of, item_rows}
use Rattle.rules.specs.Good.{GoodScope, GoodFields}
use Rattle.rules.specs.Readings
use Rattle.rules.specs.Readings.{is_inserted, Place, Level, held, Spot, original, inserted, in_original, in_inserted, place, counted, counted_out, counting, counting_reading}
use Rattle.rules.specs.Laws.ToolLaws.{All, done, ◌&◌, all_append, all_map, eqb-true}
use Rattle.rules.specs.Laws.Results.{some_same, no_option}
use Rattle.rules.specs.Laws.Meaning.Names.{LowScope}
use Rattle.rules.proofs.Laws.Output.Numbers.{Numbered, AllNumbered, NumberedScope, NumberedFields, NumberedItem}
use Rattle.places.specs.PlaceRows.{Floor, floors_at, operand_at, row_of_decl, row_of_operand, Located, in_rows, located, counted_row}
use Rattle.places.specs.Counting.{levels, spot_of, elem_map, counted_row_lem, of_space_all}
use Rattle.places.proofs.RowAt.{all_at}
use Rattle.places.proofs.LocatedAt.{AtItsWay, all_at_own_way}
use Rattle.readings.specs.Meaning.{final_meaning}
use Rattle.reading_laws.specs.Everywhere.{of_original, of_floors}
use Rattle.reading_laws.specs.Outward.{row_meant, IsOriginal}
use Rattle.reading_laws.specs.Outers.{JustOuter, alias_outer}
use Rattle.reading_laws.specs.Spots.{good_head, floors_good}
use Rattle.reading_laws.specs.Operands.{Used, operand_is_at, operand_used}
use Rattle.reading_laws.specs.Said.{said, said_in, said_out, said_behind, said_end, said_from, sought}
use Rattle.reading_laws.specs.Declared.{Declared, declared_at, inserted_at, Agree, a_place, an_inserted, nothing, the_place}
use Rattle.reading_laws.specs.Meant.{first_of, Rows, use_there, around, around_are, none_inserted_around}
use Rattle.reading_laws.specs.Whole.{named, ref_row}
use Rattle.reading_laws.specs.PlacesOriginal.{exactly}
use Rattle.readings.specs.declared.Meaning.{Meaning}

-- ---- inserted outer aliases count

-- an OUTER of two numbers
pub record OfNumbers (os : List Operand) : Type 0 where
  pub space : ℕ
  pub up : ℕ
  pub n : ℕ
  pub z : ℕ
  pub are : os ≡ outer space (Num up) (Num n) z ∷ []

abbrev pub Counts : Spot → Type 0
Counts (original field at) = Unit {0}
Counts (inserted h) = h.code ≡ 11 → OfNumbers h.operands

-- in a scope
abbrev pub AliasesCount : Floor → Type 0
AliasesCount f = All (λ (x : Located). Counts (spot_of x)) (located f.row 0 f.level.fields)

of_numbers : (os : List Operand) → AllNumbered os → JustOuter os → OfNumbers os
of_numbers os a J = go J.up J.at J.are (subst AllNumbered J.are a).0
  where
    go : (up at : Index) → os ≡ outer J.space up at J.z ∷ [] → Numbered (outer J.space up at J.z) → OfNumbers os
    go (Num d) (Num n) e m = record { space = J.space; up = d; n = n; z = J.z; are = e }
    go (Num d) (Id name) e m = absurd m
    go (Id name) at e m = absurd m

numbered_own : (i : Item) → NumberedItem i → AllNumbered (head_of i).operands
unfolding head_of
numbered_own (plain h) n = n
numbered_own (holds h s) n = n.0

numbered_at : (os : List Operand) (n : ℕ) (o : Operand) → AllNumbered os → get_elem? os n ≡ some o → Numbered o
numbered_at [] n o a e = no_option o e
numbered_at (x ∷ os) zero o a e = subst Numbered (some_same x o e) a.0
numbered_at (x ∷ os) (suc n) o a e = numbered_at os n o a.1 e

bare : (ls : List Level) (o : Operand) (d : Place) → Numbered o → counting ls o ≡ some d → (space : ℕ) × (n : ℕ) × (z : ℕ) × (o ≡ ref space (Num n) [] z)
unfolding counting
bare [] o d m e = no_option d e
bare (l ∷ ls) (ref space (Num n) [] z) d m e = (space, n, z, refl)
bare (l ∷ ls) (ref space (Num n) (q ∷ qs) z) d m e = absurd m
bare (l ∷ ls) (ref space (Id name) paths z) d m e = absurd m
bare (l ∷ ls) (outer space up at z) d m e = no_option d e
bare (l ∷ ls) (case name z) d m e = no_option d e

numbered_held : (i : Item) (gs : Fields) → NumberedItem i → held i ≡ some gs → NumberedFields gs
unfolding held
numbered_held (plain h) gs n e = no_option gs e
numbered_held (holds h (scope kind name fs)) gs n e = subst NumberedFields (some_same fs gs e) n.1

numbered_floors : (s : Scope) → NumberedScope s → (way : List ℕ) (fs : List Floor) → floors_at s way ≡ some fs → All (λ (f : Floor). NumberedFields f.level.fields) fs
numbered_floors (scope kind name gs) n way fs e = of_floors NumberedFields NumberedItem (λ i fs p. p.0) (λ i fs p. p.1) numbered_held (scope kind name gs) way fs n e

old_count : (row n at : ℕ) (ds : List Declaration) → All (λ (x : Located). Counts (spot_of x)) (in_rows row (in_original n at ds))
unfolding in_rows in_original
old_count row n at [] = done
old_count row n at (d ∷ ds) = tt & old_count (suc row) n (suc at) ds

new_count : (h : Head) (row : ℕ) (ds : List Declaration) → (h.code ≡ 11 → OfNumbers h.operands) → All (λ (x : Located). Counts (spot_of x)) (in_rows row (in_inserted h ds))
unfolding in_rows in_inserted
new_count h row [] c = done
new_count h row (d ∷ ds) c = c & new_count h (suc row) ds c

module _ (rules : RuleSet) where
  numbered_count : (fs : Fields) (kind n row : ℕ) → GoodFields rules fs kind → NumberedFields fs → All (λ (x : Located). Counts (spot_of x)) (located row n fs)
  unfolding located when◌then◌else◌
  numbered_count end kind n row g m = done
  numbered_count (i ▸ fs) kind n row g m =
      go (is_inserted (head_of i)) (λ c. of_numbers (head_of i).operands (numbered_own i m.0) (alias_outer rules (head_of i) kind (good_head rules i kind g.0) c))
      (λ k. numbered_count fs kind k (row + length (item_rows i)) g.1 m.1)
    where
      go : (b : Bool) → ((head_of i).code ≡ 11 → OfNumbers (head_of i).operands) → ((k : ℕ) → All (λ (x : Located). Counts (spot_of x)) (located (row + length (item_rows i)) k fs))
          → All (λ (x : Located). Counts (spot_of x))
          (in_rows (suc row) (when b then in_inserted (head_of i) (head_of i).decls else in_original n 0 (head_of i).decls) ++ located (row + length (item_rows i)) (when b then n else suc n) fs)
      go true c below = all_append _ _ (new_count (head_of i) (suc row) (head_of i).decls c) (below n)
      go false c below = all_append _ _ (old_count (suc row) n 0 (head_of i).decls) (below (suc n))

  -- in a resolved form they do
  pub numbered_aliases : (s : Scope) → GoodScope rules s → NumberedScope s → (way : List ℕ) (f : Floor) (rest : List Floor) → floors_at s way ≡ some (f ∷ rest) → AliasesCount f
  numbered_aliases s good m way f rest e =
      let G = first_of (floors_good rules s way (f ∷ rest) good e) in
      numbered_count f.level.fields G.0 0 f.row G.1 (first_of (numbered_floors s m way (f ∷ rest) e))

-- an input has none
pub low_aliases : (s : Scope) → LowScope s → (way : List ℕ) (f : Floor) (rest : List Floor) → floors_at s way ≡ some (f ∷ rest) → AliasesCount f
low_aliases s low way f rest e = all_map _ (λ x. original_counts (spot_of x)) (first_of (none_inserted_around s low way (f ∷ rest) e))
  where
    original_counts : (spot : Spot) → IsOriginal spot → Counts spot
    original_counts (original field at) o = tt
    original_counts (inserted h) o = absurd o

-- ---- the tree's answer and the rules' reading

module _ (s : Scope) (fs : List Floor) (own : All (AtItsWay s) fs) where
  agree_spot : (f : Floor) (out space n : ℕ) (x : Located) → get_elem? fs out ≡ some f → counted_row f space n ≡ some x → (spot : Spot) → spot_of x ≡ spot
      → Agree s fs (place f.level spot) (said (some x) n out)
  unfolding place said
  agree_spot f out space n x e q (original field at) t = a_place (declared_at s fs f out space n x e q (all_at _ out f own e) _ (ap (place f.level) t))
  agree_spot f out space n x e q (inserted h) t = an_inserted (inserted_at s fs f out space n x e q h t)

  -- what is counted in a scope around
  agree_in : (o : Option Floor) (out space n : ℕ) → get_elem? fs out ≡ o → Agree s fs (map (λ (f : Floor). f.level) o then λ l. counted l space n then place l) (said_in o out space n)
  unfolding said_in said ◌then◌
  agree_in none out space n e = nothing
  agree_in (some f) out space n e = subst (λ (o : Option Spot). Agree s fs (o then place f.level) (said (counted_row f space n) n out)) (counted_row_lem f space n) (go (counted_row f space n) refl)
    where
      go : (o : Option Located) → counted_row f space n ≡ o → Agree s fs (map spot_of o then place f.level) (said o n out)
      go none q = nothing
      go (some x) q = agree_spot f out space n x e q (spot_of x) refl

  agree_out : (os : List Operand) (m : CodeOption Meaning) → OfNumbers os → Agree s fs (counted_out (levels fs) os) (said_out fs os m)
  unfolding counted_out said_out ◌then◌
  agree_out os m O =
      subst (λ (os : List Operand). Agree s fs (counted_out (levels fs) os) (said_out fs os m)) (sym O.are)
      (subst (λ (o : Option Level). Agree s fs (o then λ l. counted l O.space O.n then place l) (said_in (get_elem? fs O.up) O.up O.space O.n)) (sym (elem_map (λ (f : Floor). f.level) fs O.up))
      (agree_in (get_elem? fs O.up) O.up O.space O.n refl))

  agree_behind : (f : Floor) (space n : ℕ) (x : Located) (m : CodeOption Meaning) → get_elem? fs 0 ≡ some f → counted_row f space n ≡ some x → (spot : Spot) → spot_of x ≡ spot → Counts spot
      → Agree s fs (Readings.meant (levels fs) f.level spot) (said_behind fs spot (said (some x) n 0) m)
  unfolding Readings.meant said_behind when◌then◌else◌
  agree_behind f space n x m e q (original field at) t c = agree_spot f 0 space n x e q (original field at) t
  agree_behind f space n x m e q (inserted h) t c = go (eqb h.code 11) refl
    where
      itself : Agree s fs none (said (some x) n 0)
      itself = unfold place in agree_spot f 0 space n x e q (inserted h) t

      go : (b : Bool) → eqb h.code 11 ≡ b
          → Agree s fs (when b then counted_out (levels fs) h.operands else none) (when b then said_out fs h.operands m else said (some x) n 0)
      go true b = agree_out h.operands m (c (eqb-true h.code 11 b))
      go false b = itself

-- a number in the innermost of these scopes
agree_number : (s : Scope) (f : Floor) (rest : List Floor) → All (AtItsWay s) (f ∷ rest) → AliasesCount f → (named : Located → CodeOption Meaning) (space n z : ℕ)
    → Agree s (f ∷ rest) (counting (levels (f ∷ rest)) (ref space (Num n) [] z)) (said_from (f ∷ rest) named 0 space n 0)
unfolding counting said_from said_end ◌then◌ counted_row
agree_number s f rest own counts named space n z =
    subst (λ (o : Option Spot). Agree s (f ∷ rest) (o then Readings.meant (levels (f ∷ rest)) f.level) (said_end (f ∷ rest) named (counted_row f space n) n 0)) (counted_row_lem f space n) (go (counted_row f space n) refl)
  where
    go : (o : Option Located) → counted_row f space n ≡ o → Agree s (f ∷ rest) (map spot_of o then Readings.meant (levels (f ∷ rest)) f.level) (said_end (f ∷ rest) named o n 0)
    go none q = nothing
    go (some x) q = agree_behind s (f ∷ rest) own f space n x (named x) refl q (spot_of x) refl (all_at _ n x (of_space_all _ space counts) q)

-- ---- the theorem

module _ (form : List ℕ) (s : Scope) (rules : RuleSet) (good : GoodScope rules s) (R : Rows form s) (p : Place) (r : ℕ) (at : row_of_operand s p ≡ some r) where
  abbrev U : Used form s p r
  U = use_there form s R p r at

  abbrev fs : List Floor
  fs = around form s R p r at

  fs_are : floors_at s p.way ≡ some fs
  fs_are = around_are form s R p r at

  counting_is : counting_reading s p ≡ counting (levels fs) U.operand
  unfolding Readings.counting_inside ◌then◌
  counting_is = rw U.used_as

  -- Every number without PATHs, where inserted outer aliases count: in an input, which has none, and in a resolved form.
  pub counting_whole : AliasesCount (use_there form s R p r at).f → (space n z : ℕ) → operand_at s p ≡ some (ref space (Num n) [] z) → Agree s (around form s R p r at) (counting_reading s p) (final_meaning form r)
  unfolding sought pick
  counting_whole counts space n z e =
      let own = all_at_own_way s p.way fs fs_are in
      let same : U.operand ≡ ref space (Num n) [] z = operand_used form s p r U (ref space (Num n) [] z) e in
      let m = named form in
      let rows : final_meaning form r ≡ said_from fs m 0 space n 0 = (ref_row form s rules good R p r at space n [] z e).1 in
      let reads : counting_reading s p ≡ counting (levels fs) (ref space (Num n) [] z) = counting_is ∙ ap (counting (levels fs)) same in
      subst (λ (k : CodeOption Meaning). Agree s (around form s R p r at) (counting_reading s p) k) (sym rows)
      (subst (λ (o : Option Place). Agree s (around form s R p r at) o (said_from fs m 0 space n 0)) (sym reads) (agree_number s U.f U.rest own counts m space n z))

  pub counting_input : LowScope s → (space n z : ℕ) → operand_at s p ≡ some (ref space (Num n) [] z) → Agree s (around form s R p r at) (counting_reading s p) (final_meaning form r)
  counting_input low = counting_whole (low_aliases s low p.way U.f U.rest fs_are)

  pub counting_resolved : NumberedScope s → (space n z : ℕ) → operand_at s p ≡ some (ref space (Num n) [] z) → Agree s (around form s R p r at) (counting_reading s p) (final_meaning form r)
  counting_resolved m = counting_whole (numbered_aliases rules s good m p.way U.f U.rest fs_are)

  -- So a number means the row of a place exactly if the rules' counting reading gives that place.
  pub counting_exactly : AliasesCount (use_there form s R p r at).f → (space n z : ℕ) → operand_at s p ≡ some (ref space (Num n) [] z) → (d : Place) (row : ℕ) → row_of_decl s d ≡ some row
      → (row_meant (final_meaning form r) ≡ some row → counting_reading s p ≡ some d) × (counting_reading s p ≡ some d → row_meant (final_meaning form r) ≡ some row)
  counting_exactly counts space n z o = exactly form s rules good R p.way fs fs_are (counting_reading s p) (final_meaning form r) (counting_whole counts space n z o)

  -- the operand holds numbers only
  pub operand_numbered : NumberedScope s → Numbered U.operand
  operand_numbered m =
      let fields : NumberedFields U.f.level.fields = first_of (numbered_floors s m p.way fs fs_are) in
      let item = of_original NumberedFields NumberedItem (λ i fs p. p.0) (λ i fs p. p.1) numbered_held U.f.row U.f.level.fields p.field U.x fields U.field_there in
      numbered_at (head_of U.x.item).operands p.at U.operand (numbered_own U.x.item item) U.operand_there

  -- In a resolved form: where the rules give a place, its declaration is what is meant in the end.
  pub counting_row : NumberedScope s → (d : Place) → counting_reading s p ≡ some d → Declared s (around form s R p r at) d (final_meaning form r)
  counting_row m d e =
      let B = bare (levels fs) U.operand d (operand_numbered m) (sym counting_is ∙ e) in
      the_place s fs d (final_meaning form r) (counting_reading s p) e (counting_resolved m B.0 B.1 B.2 (operand_is_at form s p r U ∙ ap {B = Option Operand} some B.3))
