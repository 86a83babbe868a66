-- On the rows of a tree with an input's names the outward reading gives the declaration at the place that the rules' outward reading gives.
use Rattle.std.specs.Prelude.{◌≡◌, false, List, [], ◌∷◌, ℕ, suc, ◌+◌, ◌≤◌, eqb, length, Option as CodeOption, Some, None}
use Rattle.std.proofs.Math.Path.{refl, ap, subst}
use Rattle.std.proofs.Common.{sym, ◌∙◌, arith}
use Rattle.std.proofs.Math.Option.{Option, none, some}
use Rattle.std.proofs.Math.ListN.{get_elem?}
use Rattle.kit.specs.Pick.{pick}
use Rattle.kit.proofs.Laws.{tests}
use Rattle.rules.specs.Tools.{when◌then◌else◌, ◌then◌}
use Rattle.rules.specs.Rows.{Ref, Id, encode, flag, number}
use Rattle.rules.specs.Tree.{Declaration, Operand, ref, Scope, scope, Fields, end, ◌▸◌, Item, plain, holds, head_of, item_rows, flatten}
use Rattle.rules.specs.Shapes.{here_only}
use Rattle.rules.specs.Readings
use Rattle.rules.specs.Readings.{Place, held, in_original, walked, walked_at, outward_reading}
use Rattle.rules.specs.Laws.ToolLaws.{All, done, ◌&◌, all_append, all_map}
use Rattle.rules.specs.Laws.Results.{some_same, no_option}
use Rattle.rules.specs.Laws.Meaning.Names.{LowHead, LowOperand, LowScope, LowFields, LowItem}
use Rattle.rules.proofs.Laws.Meaning.Lookups.{low_original}
use Rattle.rules.proofs.Laws.Meaning.StepB.{walked_ref, low_operand}
use Rattle.places.specs.PlaceRows.{Floor, floors_at, row_of_decl, row_of_operand, Located, in_rows, located}
use Rattle.places.specs.Counting.{levels}
use Rattle.places.proofs.RowAt.{operand_row_of}
use Rattle.places.proofs.LocatedAt.{all_at_own_way}
use Rattle.row_parts.specs.Parts.{code_at, b_at, e_at, x_at, y_at, rows_in, field_of}
use Rattle.scopes.specs.Scopes.{scope_of}
use Rattle.readings.specs.Meaning.{space_sought, is_walked, reading_of, outward_for, meaning_of}
use Rattle.scopes.specs.declared.Wanted.TheVariants.{Declaring}
use Rattle.reading_laws.specs.Stand.{Is, At, code_part, b_part, e_part, x_part, y_part}
use Rattle.reading_laws.specs.Floors.{Chain, first_row}
use Rattle.reading_laws.specs.Everywhere.{of_original, of_floors}
use Rattle.reading_laws.specs.Outward.{row_meant, scope_outward_lem, IsOriginal, NoneInserted, meant_in, outward_is, outward_declared}
use Rattle.reading_laws.specs.Declared.{Declared, decls_stand, Agree, a_place, nothing}
use Rattle.reading_laws.specs.Operands.{Used, used}
use Rattle.readings.specs.declared.Meaning.{Meaning}

-- ---- an input's names

low_first : (i : Item) (fs : Fields) → LowFields (i ▸ fs) → LowHead (head_of i) × LowItem i
low_first i fs l = (l.0, l.1)

low_rest : (i : Item) (fs : Fields) → LowFields (i ▸ fs) → LowFields fs
low_rest i fs l = l.2

low_held : (i : Item) (gs : Fields) → LowHead (head_of i) × LowItem i → held i ≡ some gs → LowFields gs
unfolding held
low_held (plain h) gs l e = no_option gs e
low_held (holds h (scope kind name fs)) gs l e = subst LowFields (some_same fs gs e) l.1.1

old_rows : (row n at : ℕ) (ds : List Declaration) → All (λ (x : Located). IsOriginal x.standing.spot) (in_rows row (in_original n at ds))
unfolding in_rows in_original
old_rows row n at [] = done
old_rows row n at (d ∷ ds) = tt & old_rows (suc row) n (suc at) ds

none_inserted : (row n : ℕ) (fs : Fields) → LowFields fs → All (λ (x : Located). IsOriginal x.standing.spot) (located row n fs)
unfolding located when◌then◌else◌
none_inserted row n end l = done
none_inserted row n (i ▸ fs) l =
    rw (low_original (head_of i) l.0.decls) (all_append _ _ (old_rows (suc row) n 0 (head_of i).decls) (none_inserted (row + length (item_rows i)) (suc n) fs l.2))

low_floors : (s : Scope) → LowScope s → (way : List ℕ) (fs : List Floor) → floors_at s way ≡ some fs → All (λ (f : Floor). LowFields f.level.fields) fs
low_floors (scope kind name gs) l way fs e = of_floors LowFields (λ (i : Item). LowHead (head_of i) × LowItem i) low_first low_rest low_held (scope kind name gs) way fs l.1 e

-- the scopes around a place of an input
pub none_inserted_around : (s : Scope) → LowScope s → (way : List ℕ) (fs : List Floor) → floors_at s way ≡ some fs → All NoneInserted fs
none_inserted_around s low way fs e = all_map fs (λ f h. none_inserted f.row 0 f.level.fields h) (low_floors s low way fs e)

pub first_of : {A : Type 0} {P : A → Type 0} {x : A} {xs : List A} → All P (x ∷ xs) → P x
first_of (h & a) = h

-- ---- outward

module _ (form : List ℕ) where
  -- a walked name is read outward
  walked_meaning : (r code space name z : ℕ) → Is form r (Ref space (Id name) 0 z) → b_at form (field_of form r) ≡ code → here_only code ≡ false → meaning_of form r ≡ outward_for form r space name
  unfolding meaning_of reading_of is_walked space_sought encode flag number pick
  walked_meaning r code space name z is of_field here =
      let c : code_at form r ≡ 3 = ap code_part is in
      let b : b_at form r ≡ space = ap b_part is in
      let e : e_at form r ≡ 1 = ap e_part is in
      let x : x_at form r ≡ name = ap x_part is in
      let y : y_at form r ≡ 0 = ap y_part is in
      rw (c, b, e, x, y, of_field, here)

  outward_at : (r space name : ℕ) (fs : List Floor) → Chain form fs → scope_of form r ≡ first_row fs → (s : Scope) (is_name : eqb name 0 ≡ false) → outward_for form r space name ≡ meant_in form s space name is_name 0 fs
  unfolding outward_for
  outward_at r space name fs C around s is_name = rw (around, scope_outward_lem form (Declaring space name) fs C)

no_row : (m : CodeOption Meaning) → row_meant m ≡ none → m ≡ None
unfolding row_meant
no_row (Some meaning) e = no_option meaning.row (sym e)
no_row None e = refl

-- the rows of a tree stand in a form
pub record Rows (form : List ℕ) (s : Scope) : Type 0 where
  pub stand : At form 0 (flatten s)
  pub fit : length (flatten s) ≤ rows_in form

module _ (form : List ℕ) (s : Scope) (R : Rows form s) (p : Place) (r : ℕ) (at : row_of_operand s p ≡ some r) where
  -- the operand there, and the scopes around it
  pub use_there : Used form s p r
  use_there = used form s p r R.stand R.fit at

  abbrev pub around : List Floor
  around = use_there.f ∷ use_there.rest

  pub around_are : floors_at s p.way ≡ some around
  around_are = use_there.are

  walked_use : (w : ℕ × ℕ) → walked_at s p ≡ some w → walked (head_of use_there.x.item) use_there.operand ≡ some w
  unfolding Readings.walked_inside ◌then◌
  walked_use w e = rw use_there.used_as at e

  outward_use : (w : ℕ × ℕ) → walked (head_of use_there.x.item) use_there.operand ≡ some w → outward_reading s p ≡ Readings.outward (levels (use_there.f ∷ use_there.rest)) w.0 w.1
  unfolding Readings.outward_inside ◌then◌
  outward_use w e = rw (use_there.used_as, e)

  -- the operand has an input's names
  pub low_use : LowScope s → LowOperand use_there.operand
  low_use low =
      let U = use_there in
      let head = (of_original LowFields (λ (i : Item). LowHead (head_of i) × LowItem i) low_first low_rest low_held U.f.row U.f.level.fields p.field U.x (low_here U) U.field_there).0 in
      low_operand (head_of U.x.item).operands p.at U.operand head.operands U.operand_there
    where
      low_here : (U : Used form s p r) → LowFields U.f.level.fields
      low_here U = first_of (low_floors s low p.way (U.f ∷ U.rest) U.are)

  both : LowScope s → (w : ℕ × ℕ) → walked_at s p ≡ some w
      → (row_meant (meaning_of form r) ≡ (outward_reading s p then row_of_decl s)) × ((d : Place) → outward_reading s p ≡ some d → Declared s around d (meaning_of form r))
  both low w e =
      let U = use_there in
      let x = walked_use w e in
      let W = walked_ref (head_of U.x.item) U.operand w x in
      let operand : LowOperand (ref w.0 (Id w.1) [] W.0) = subst LowOperand W.1 (low_use low) in
      let is_name : eqb w.1 0 ≡ false = omega (tests, operand.0) in
      let is : Is form r (Ref w.0 (Id w.1) 0 W.0) = subst (λ (o : Operand). Is form r (operand_row_of o)) W.1 U.is in
      let own = all_at_own_way s p.way (U.f ∷ U.rest) U.are in
      let originals = none_inserted_around s low p.way (U.f ∷ U.rest) U.are in
      let decls = decls_stand form s R.stand R.fit p.way (U.f ∷ U.rest) U.are in
      let out = outward_use w x in
      let means = walked_meaning form r (head_of U.x.item).code w.0 w.1 W.0 is U.of_field W.2 ∙ outward_at form r w.0 w.1 (U.f ∷ U.rest) U.chain U.around s is_name in (
        ap row_meant means ∙ (outward_is form s w.0 w.1 is_name (U.f ∷ U.rest) 0 U.chain own originals ∙ ap (λ (o : Option Place). o then row_of_decl s) (sym out)),
        λ d q. subst (Declared s (U.f ∷ U.rest) d) (sym means)
            (outward_declared form s w.0 w.1 is_name (U.f ∷ U.rest) (U.f ∷ U.rest) 0 (λ k. (let same : 0 + k ≡ k = omega arith in ap (get_elem? (U.f ∷ U.rest)) same)) U.chain own originals decls d (sym out ∙ q)),
      )

  -- The outward reading of a walked name: on rows as in the tree, found or not.
  pub outward_row : LowScope s → (w : ℕ × ℕ) → walked_at s p ≡ some w → row_meant (meaning_of form r) ≡ (outward_reading s p then row_of_decl s)
  outward_row low w e = (both low w e).0

  -- Where it is found: that declaration, with all that is said of it.
  pub outward_found : LowScope s → (w : ℕ × ℕ) → walked_at s p ≡ some w → (d : Place) → outward_reading s p ≡ some d → Declared s around d (meaning_of form r)
  outward_found low w e d q = (both low w e).1 d q

  -- So the rows give a place's declaration exactly where the rules give that place, and nothing where they give none.
  pub outward_whole : LowScope s → (w : ℕ × ℕ) → walked_at s p ≡ some w → Agree s around (outward_reading s p) (meaning_of form r)
  unfolding ◌then◌
  outward_whole low w e = go (outward_reading s p) refl
    where
      go : (o : Option Place) → outward_reading s p ≡ o → Agree s around o (meaning_of form r)
      go none q = subst (Agree s around none) (sym (no_row (meaning_of form r) (outward_row low w e ∙ ap (λ (o : Option Place). o then row_of_decl s) q))) nothing
      go (some d) q = a_place (outward_found low w e d q)
