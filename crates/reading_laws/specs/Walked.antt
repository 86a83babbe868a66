-- A row of an input is read outward exactly where a walked name stands: such a row is that of a walked name at a place.
use Rattle.std.specs.Prelude.{◌≡◌, refl, Bool, true, false, ◌&&◌, not, ◌⊎◌, List, [], ◌∷◌, ℕ, zero, suc, ◌+◌, ◌*◌, ◌≤◌, ◌<◌, eqb, length}
use Rattle.std.proofs.Common.{ap, sym, ◌∙◌, subst, inl, inr, arith}
use Rattle.std.proofs.Math.Option.{some}
use Rattle.std.proofs.Math.ListN.{get_elem?}
use Rattle.kit.specs.Pick.{pick}
use Rattle.kit.proofs.Laws.{past, lt_or_le}
use Rattle.rules.specs.Tools.{◌then◌, only}
use Rattle.rules.specs.Rows.{Num, Id, encode, flag}
use Rattle.rules.specs.Tree.{Operand, ref, outer, case, Head, Scope, head_of, flatten}
use Rattle.rules.specs.Shapes.{here_only}
use Rattle.rules.specs.Readings
use Rattle.rules.specs.Readings.{Place, walked, walked_at}
use Rattle.rules.specs.Laws.ToolLaws.{and_left, and_right, not-true, eqb-true, false_not}
use Rattle.rules.specs.Laws.Meaning.Names.{LowScope}
use Rattle.places.specs.PlaceRows.{row_of_operand}
use Rattle.places.proofs.RowAt.{operand_row_of}
use Rattle.row_parts.specs.Parts.{start_of, code_at, b_at, e_at, y_at, field_of}
use Rattle.readings.specs.Meaning.{is_walked, reading_of, is_outward}
use Rattle.readings.specs.declared.Reading.TheVariants.{Outward, LookedUp, Counting}
use Rattle.reading_laws.specs.Stand.{Is, code_part, e_part, y_part, at_elem}
use Rattle.reading_laws.specs.Operands.{used}
use Rattle.reading_laws.specs.Meant.{Rows}
use Rattle.reading_laws.specs.EveryRow.{every_ref}

-- what a row that is read outward has
record ReadOutward (form : List ℕ) (r : ℕ) : Type 0 where
  named : eqb (e_at form r) 0 ≡ false
  is_ref_lem : code_at form r ≡ 3
  bare : y_at form r ≡ 0
  walks : here_only (b_at form (field_of form r)) ≡ false

read_outward : (form : List ℕ) (r : ℕ) → is_outward (reading_of form r) ≡ true → ReadOutward form r
unfolding reading_of is_walked pick
read_outward form r e =
    let T = go (eqb (e_at form r) 0) (eqb (code_at form r) 3 && eqb (y_at form r) 0 && not (here_only (b_at form (field_of form r)))) e in
    let first = and_left (eqb (code_at form r) 3 && eqb (y_at form r) 0) (not (here_only (b_at form (field_of form r)))) T.1 in
    record {
      named = T.0;
      is_ref_lem = eqb-true (code_at form r) 3 (and_left (eqb (code_at form r) 3) (eqb (y_at form r) 0) first);
      bare = eqb-true (y_at form r) 0 (and_right (eqb (code_at form r) 3) (eqb (y_at form r) 0) first);
      walks = not-true (here_only (b_at form (field_of form r))) (and_right (eqb (code_at form r) 3 && eqb (y_at form r) 0) (not (here_only (b_at form (field_of form r)))) T.1);
    }
  where
    go : (a b : Bool) → is_outward (pick a Counting (pick b Outward LookedUp)) ≡ true → (a ≡ false) × (b ≡ true)
    go true b e = false_not e
    go false true e = (refl, refl)
    go false false e = false_not e

walked_of : (form : List ℕ) (r : ℕ) (h : Head) (o : Operand) → Is form r (operand_row_of o) → ReadOutward form r → here_only h.code ≡ false → (w : ℕ × ℕ) × (walked h o ≡ some w)
unfolding walked only encode flag
walked_of form r h (ref space (Num n) paths z) is R here =
    let e : e_at form r ≡ 0 = ap e_part is in
    false_not (sym R.named ∙ ap (λ (k : ℕ). eqb k 0) e)
walked_of form r h (ref space (Id name) [] z) is R here = ((space, name), rw here)
walked_of form r h (ref space (Id name) (p ∷ ps) z) is R here =
    let y : y_at form r ≡ suc (length ps) = ap y_part is in
    let bare = R.bare in
    absurd (omega (arith, y, bare))
walked_of form r h (outer space up at z) is R here =
    let c : code_at form r ≡ 5 = ap code_part is in
    let is_ref_lem = R.is_ref_lem in
    absurd (omega (arith, c, is_ref_lem))
walked_of form r h (case name z) is R here =
    let c : code_at form r ≡ 6 = ap code_part is in
    let is_ref_lem = R.is_ref_lem in
    absurd (omega (arith, c, is_ref_lem))

elem_there : {A : Type 0} (xs : List A) (k : ℕ) → k < length xs → (a : A) × (get_elem? xs k ≡ some a)
elem_there [] k h = absurd (omega arith)
elem_there (x ∷ xs) zero h = (x, refl)
elem_there (x ∷ xs) (suc k) h = elem_there xs k (omega arith)

module _ (form : List ℕ) (s : Scope) (low : LowScope s) (R : Rows form s) where
  walked_there : (r : ℕ) → ReadOutward form r → (p : Place) → row_of_operand s p ≡ some r → (w : ℕ × ℕ) × (walked_at s p ≡ some w)
  unfolding Readings.walked_inside ◌then◌
  walked_there r O p at =
      let U = used form s p r R.stand R.fit at in
      let W = walked_of form r (head_of U.x.item) U.operand U.is O (ap here_only (sym U.of_field) ∙ O.walks) in
      (W.0, rw U.used_as W.1)

  in_form : (r : ℕ) → ReadOutward form r → r < length (flatten s) → (p : Place) × (row_of_operand s p ≡ some r)
  in_form r O h =
      let E = elem_there (flatten s) r h in
      let zeroth : 0 + r ≡ r = omega arith in
      let is : Is form r E.0 = subst (λ (n : ℕ). Is form n E.0) zeroth (at_elem form 0 (flatten s) r E.0 R.stand E.1) in
      every_ref s low r E.0 E.1 (sym (ap code_part is) ∙ O.is_ref_lem)

  -- behind the form nothing is read outward
  no_more : (r : ℕ) → ReadOutward form r → length form ≡ 8 + 16 * length (flatten s) → length (flatten s) ≤ r → ⊥
  unfolding code_at
  no_more r O long h =
      let c : 0 ≡ code_at form r = past form (start_of r) 0 (omega (arith, long, h)) in
      let is_ref_lem = O.is_ref_lem in
      omega (arith, c, is_ref_lem)

  -- Every row that is read outward is that of a walked name at a place.
  pub walked_row : length form ≡ 8 + 16 * length (flatten s) → (r : ℕ) → is_outward (reading_of form r) ≡ true → (p : Place) × (row_of_operand s p ≡ some r) × (w : ℕ × ℕ) × (walked_at s p ≡ some w)
  walked_row long r e = go (lt_or_le r (length (flatten s)))
    where
      O : ReadOutward form r
      O = read_outward form r e

      go : (r < length (flatten s)) ⊎ (length (flatten s) ≤ r) → (p : Place) × (row_of_operand s p ≡ some r) × (w : ℕ × ℕ) × (walked_at s p ≡ some w)
      go (inl h) =
          let P = in_form r O h in
          let W = walked_there r O P.0 P.1 in
          (P.0, P.1, W.0, W.1)
      go (inr h) = absurd (no_more r O long h)
