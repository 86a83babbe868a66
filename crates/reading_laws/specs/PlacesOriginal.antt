-- No place has the row of an inserted declaration. So the rows give the row of a place exactly if the rules give that place.
use Rattle.std.specs.Prelude.{◌≡◌, Bool, true, false, ◌||◌, Option as CodeOption}
use Rattle.std.proofs.Math.Path.{refl, ap, sym, subst}
use Rattle.std.proofs.Common.{◌∙◌}
use Rattle.std.proofs.Math.Option.{Option, none, some}
use mathlib.Core.List.{List, [], ◌∷◌, ◌++◌, append_assoc}
use native.Mathlib.Omega.{arith}
use Prim.Native.Nat.{ℕ, zero, suc, ◌+◌, ◌<◌}
use Rattle.std.proofs.Math.Dec.{eqb}
use Rattle.std.proofs.Math.ListN.{length, get_elem?}
use Rattle.rules.specs.Tools.{when◌then◌else◌}
use Rattle.rules.specs.Versions.{RuleSet}
use Rattle.rules.specs.Rows.{Row, Field, Close, encode}
use Rattle.rules.specs.Tree.{Declaration, Operand, ref, outer, case, Head, Scope, Fields, end, ◌▸◌, Item, head_of, flatten, fields_rows, item_rows, head_rows, decl_rows, operand_row, operand_rows, export_rows}
use Rattle.rules.specs.Good.{GoodScope}
use Rattle.rules.specs.Readings.{is_fresh, any_fresh, is_inserted, Place}
use Rattle.rules.specs.Laws.ToolLaws.{then_some, or_cases, or-true, false_not}
use Rattle.rules.specs.Laws.Results.{some_same, no_option}
use Rattle.places.specs.PlaceRows.{Placed, originals_from, Floor, floors_at, field_in, field_at, decl_row, row_of_decl}
use Rattle.places.proofs.RowAt.{all_at}
use Rattle.places.proofs.RowsApart.{elem_lt, decls_apart}
use Rattle.row_parts.specs.Parts.{field_of}
use Rattle.reading_laws.specs.Stand.{At, code_part, x_part, behind_length, at_left, at_right}
use Rattle.reading_laws.specs.Even.{code_of}
use Rattle.reading_laws.specs.Floors.{floors_chain}
use Rattle.reading_laws.specs.Outward.{row_meant}
use Rattle.reading_laws.specs.Number.{stands_at}
use Rattle.reading_laws.specs.Spots.{floors_good, Inserted, SpotIs, followed}
use Rattle.reading_laws.specs.Operands.{field_step, field_self}
use Rattle.reading_laws.specs.Declared.{OfInserted, Agree, a_place, an_inserted, nothing, the_place}
use Rattle.reading_laws.specs.Meant.{Rows}
use Rattle.reading_laws.specs.Whole.{spot_is}
use Rattle.readings.specs.declared.Meaning.{Meaning}

-- ---- what stands behind the DECLs of a field is no DECL

abbrev NotDecl : Row → Type 0
NotDecl r = eqb (code_of r) 2 ≡ false

abbrev BehindDecls : (rows : List Row) → Head → Type 0
BehindDecls rows h = (r : Row) × (more : List Row) × (rows ≡ Field h.code h.builtin h.z ∷ (decl_rows h.decls ++ (r ∷ more))) × NotDecl r

first_of_rest : (os : List Operand) (o : Option ℕ) (r : Row) (more : List Row) → NotDecl r → (q : Row) × (others : List Row) × ((operand_rows os ++ export_rows o) ++ (r ∷ more) ≡ q ∷ others) × NotDecl q
unfolding operand_rows operand_row export_rows encode
first_of_rest [] none r more n = (r, more, refl, n)
first_of_rest [] (some k) r more n = (_, _, refl, refl)
first_of_rest (ref space at paths z ∷ os) o r more n = (_, _, refl, refl)
first_of_rest (outer space up at z ∷ os) o r more n = (_, _, refl, refl)
first_of_rest (case name z ∷ os) o r more n = (_, _, refl, refl)

behind_head : (h : Head) (r : Row) (more : List Row) → NotDecl r → BehindDecls (head_rows h ++ (r ∷ more)) h
unfolding head_rows
behind_head h r more n =
    let F = first_of_rest h.operands h.export r more n in (
      F.0,
      F.1,
      ap (λ (l : List Row). Field h.code h.builtin h.z ∷ l)
          (append_assoc (decl_rows h.decls) (operand_rows h.operands ++ export_rows h.export) (r ∷ more) ∙ ap (λ (l : List Row). decl_rows h.decls ++ l) F.2),
      F.3,
    )

behind_decls : (i : Item) (fs : Fields) → BehindDecls (item_rows i ++ (fields_rows fs ++ (Close ∷ []))) (head_of i)
behind_decls i fs =
    let F = followed i fs in
    let B = behind_head (head_of i) F.0 F.1 F.3.not_decl_lem in
    (B.0, B.1, F.2 ∙ B.2, B.3)

-- ---- fields that begin at one row

module _ (form : List ℕ) where
  -- the DECLs of one of them are those of the other
  fresh_too : (ds es : List Declaration) (row : ℕ) (r : Row) → NotDecl r → At form row (decl_rows ds) → At form row (decl_rows es ++ (r ∷ [])) → any_fresh ds ≡ true → any_fresh es ≡ true
  unfolding decl_rows any_fresh encode
  fresh_too [] es row r n a b e = false_not e
  fresh_too (d ∷ ds) [] row r n a b e = false_not (sym n ∙ (ap (λ (c : ℕ). eqb c 2) (sym (ap code_part b.0)) ∙ ap (λ (c : ℕ). eqb c 2) (ap code_part a.0)))
  fresh_too (d ∷ ds) (c ∷ es) row r n a b e =
      let same : d.name ≡ c.name = sym (ap x_part a.0) ∙ ap x_part b.0 in
      or_cases (is_fresh d.name) (any_fresh ds) e
      (λ t. ap (λ (x : Bool). x || any_fresh es) (ap is_fresh (sym same) ∙ t))
      (λ t. ap (λ (x : Bool). is_fresh c.name || x) (fresh_too ds es (row + 1) r n a.1 b.1 t) ∙ or-true (is_fresh c.name))

  -- the FIELD of a DECL
  up_decls : (ds : List Declaration) (row m : ℕ) → At form (row + 1) (decl_rows ds) → m < length ds → field_of form (suc (row + m)) ≡ field_of form row
  unfolding decl_rows encode
  up_decls [] row m a low = absurd (omega (arith, low))
  up_decls (d ∷ ds) row zero a low =
      let same : suc (row + 0) ≡ row + 1 = omega arith in
      ap (field_of form) same ∙ field_step form row (ap (λ (c : ℕ). eqb c 1) (ap code_part a.0))
  up_decls (d ∷ ds) row (suc m) a low =
      let same : suc (row + suc m) ≡ suc ((row + 1) + m) = omega arith in
      ap (field_of form) same ∙ (up_decls ds (row + 1) m a.1 (omega (arith, low)) ∙ field_step form row (ap (λ (c : ℕ). eqb c 1) (ap code_part a.0)))

  field_of_decl : (h : Head) (row m : ℕ) (rest : List Row) (d : Declaration) → At form row (Field h.code h.builtin h.z ∷ (decl_rows h.decls ++ rest)) → get_elem? h.decls m ≡ some d → field_of form (suc (row + m)) ≡ row
  unfolding encode
  field_of_decl h row m rest d a e = up_decls h.decls row m (at_left form (row + 1) (decl_rows h.decls) rest a.1) (elem_lt h.decls m d e) ∙ field_self form row (ap code_part a.0)

  -- an original field with what follows it
  record Original (x : Placed) : Type 0 where
    later : Fields
    rows : At form x.row (item_rows x.item ++ (fields_rows later ++ (Close ∷ [])))
    old : is_inserted (head_of x.item) ≡ false

  original_at : (fs : Fields) (row n : ℕ) (x : Placed) → At form row (fields_rows fs ++ (Close ∷ [])) → get_elem? (originals_from row fs) n ≡ some x → Original x
  unfolding originals_from when◌then◌else◌ flatten
  original_at end row n x a e = no_option x e
  original_at (i ▸ fs) row n x a e =
      let all : At form row (item_rows i ++ (fields_rows fs ++ (Close ∷ []))) = subst (At form row) (append_assoc (item_rows i) (fields_rows fs) (Close ∷ [])) a in
      let rest : At form (row + length (item_rows i)) (fields_rows fs ++ (Close ∷ [])) =
      subst (λ (r : ℕ). At form r (fields_rows fs ++ (Close ∷ []))) (behind_length row (item_rows i)) (at_right form row (item_rows i) (fields_rows fs ++ (Close ∷ [])) all) in
      go (is_inserted (head_of i)) refl n e all (λ m q. original_at fs (row + length (item_rows i)) m x rest q)
    where
      later_ones : List Placed
      later_ones = originals_from (row + length (item_rows i)) fs

      go : (b : Bool) → is_inserted (head_of i) ≡ b → (n : ℕ) → get_elem? (when b then later_ones else record { row = row; item = i } ∷ later_ones) n ≡ some x
          → At form row (item_rows i ++ (fields_rows fs ++ (Close ∷ []))) → ((m : ℕ) → get_elem? later_ones m ≡ some x → Original x) → Original x
      go true b n e all below = below n e
      go false b zero e all below = subst Original (some_same _ x e) (record { later = fs; rows = all; old = b })
      go false b (suc n) e all below = below n e

  -- an inserted field and an original one have no DECL in common
  not_both : (h : Head) (row m : ℕ) (d : Declaration) (x : Placed) (k : ℕ) (c : Declaration) → is_inserted h ≡ true → At form row (head_rows h) → get_elem? h.decls m ≡ some d
      → Original x → get_elem? (head_of x.item).decls k ≡ some c → suc (row + m) ≡ suc (x.row + k) → ⊥
  unfolding head_rows is_inserted
  not_both h row m d x k c new own e O q same =
      let i = head_of x.item in
      let B = behind_decls x.item O.later in
      let there : At form x.row (Field i.code i.builtin i.z ∷ (decl_rows i.decls ++ (B.0 ∷ B.1))) = subst (At form x.row) B.2 O.rows in
      let one_row : row ≡ x.row = sym (field_of_decl h row m _ d own e) ∙ (ap (field_of form) same ∙ field_of_decl i x.row k _ c there q) in
      let decls : At form (row + 1) (decl_rows h.decls) = at_left form (row + 1) (decl_rows h.decls) _ own.1 in
      let short : At form (x.row + 1) (decl_rows i.decls ++ (B.0 ∷ [])) =
      at_left form (x.row + 1) (decl_rows i.decls ++ (B.0 ∷ [])) B.1 (subst (At form (x.row + 1)) (sym (append_assoc (decl_rows i.decls) (B.0 ∷ []) B.1)) there.1) in
      let others : At form (row + 1) (decl_rows i.decls ++ (B.0 ∷ [])) = subst (λ (r : ℕ). At form (r + 1) (decl_rows i.decls ++ (B.0 ∷ []))) (sym one_row) short in
      false_not (sym O.old ∙ fresh_too h.decls i.decls (row + 1) B.0 B.3 decls others new)

-- ---- the theorem

module _ (form : List ℕ) (s : Scope) (rules : RuleSet) (good : GoodScope rules s) (R : Rows form s) (way : List ℕ) (fs : List Floor) (are : floors_at s way ≡ some fs) where
  is_inserted_lem : {m : CodeOption Meaning} → (I : OfInserted fs m) → Inserted form I.f.row I.h I.x.standing.decl I.x.row
  is_inserted_lem I =
      let S = stands_at form fs I.out I.f (floors_chain form s way fs R.stand R.fit are) I.around in
      let G = all_at _ I.out I.f (floors_good rules s way fs good are) I.around in
      subst (λ spot. SpotIs form I.f.row spot I.x.standing.decl I.x.row) I.spot (spot_is form rules I.f S.0 S.1 G I.x.standing.decl.space I.number I.x I.counts)

  -- An inserted declaration is at no place's row.
  pub no_place : {m : CodeOption Meaning} → (I : OfInserted fs m) (d : Place) → row_of_decl s d ≡ some I.x.row → ⊥
  unfolding row_of_decl decl_row field_at field_in
  no_place I d e =
      let row = I.x.row in
      let s₁ = then_some (field_at s d) _ row e in
      let s₂ = then_some (get_elem? (head_of s₁.0.item).decls d.at) _ row s₁.2 in
      let s₃ = then_some (floors_at s d.way) _ s₁.0 s₁.1 in
      let J = is_inserted_lem I in
      let at_row : suc (s₁.0.row + d.at) ≡ row = some_same _ row s₂.2 in
      go s₃.0 s₃.1 s₁.0 s₃.2 (λ O. not_both form I.h J.row J.m I.x.standing.decl s₁.0 d.at s₂.0 J.new J.own J.decl O s₂.1 (sym J.is_at ∙ sym at_row))
    where
      go : (gs : List Floor) → floors_at s d.way ≡ some gs → (x : Placed) → field_in gs d.field ≡ some x → (Original form x → ⊥) → ⊥
      go [] q x e never = no_option x e
      go (g ∷ gs) q x e never = never (original_at form g.level.fields g.row d.field x (floors_chain form s d.way (g ∷ gs) R.stand R.fit q).0.fields e)

  -- So the rows give the row of a place exactly if the rules give that place.
  pub exactly : (o : Option Place) (m : CodeOption Meaning) → Agree s fs o m → (d : Place) (row : ℕ) → row_of_decl s d ≡ some row → (row_meant m ≡ some row → o ≡ some d) × (o ≡ some d → row_meant m ≡ some row)
  unfolding row_meant
  exactly o m A d row e =
      let back : o ≡ some d → row_meant m ≡ some row = λ q. (let D = the_place s fs d m o q A in ap row_meant D.is ∙ (sym D.is_row ∙ e)) in
      (there o m A, back)
    where
      there : (o : Option Place) (m : CodeOption Meaning) → Agree s fs o m → row_meant m ≡ some row → o ≡ some d
      there (some c) m (a_place D) q =
          let same : D.x.row ≡ row = some_same D.x.row row (sym (ap row_meant D.is) ∙ q) in
          ap {B = Option Place} some (decls_apart s c d row (D.is_row ∙ ap {B = Option ℕ} some same) e)
      there none m (an_inserted I) q =
          let same : I.x.row ≡ row = some_same I.x.row row (sym (ap row_meant I.is) ∙ q) in
          absurd (no_place I d (e ∙ ap {B = Option ℕ} some (sym same)))
      there none m nothing q = no_option row q
