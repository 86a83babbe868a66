-- The references of a tree at a place, gone through with the tree; in an accepted run they stand at the same places in the input and in the
-- output.
use Rattle.std.specs.Prelude.{◌≡◌, Bool, true, length}
use Rattle.std.proofs.Math.Path.{refl, ap, ap₂}
use Rattle.std.proofs.Common.{sym, ◌∙◌, arith}
use Rattle.std.proofs.Math.Bool.{false}
use Rattle.std.proofs.Math.Option.{Option, some}
use mathlib.Core.List.{List, [], ◌∷◌, ◌++◌, map}
use Prim.Native.Nat.{ℕ, suc, ◌+◌}
use Rattle.std.proofs.Math.ListN.{get_elem?}
use Rattle.rules.specs.Tools.{when◌then◌else◌, only, ◌then◌}
use Rattle.rules.specs.Tree.{Operand, ref, outer, case, Head, Scope, scope, Fields, end, ◌▸◌, Item, plain, holds, head_of, with_operands, item_rows}
use Rattle.rules.specs.Readings
use Rattle.rules.specs.Readings.{is_inserted, Place, level, fields_of, Use, use_at}
use Rattle.rules.specs.Laws.ToolLaws.{then_some}
use Rattle.rules.specs.Laws.Results.{no_option}
use Rattle.rules.proofs.Laws.Output.Kept.{blank_operand, blank_head, blank, blank_fields, blank_item, without, without_fields, without_item, Kept}
use Rattle.places.specs.PlaceRows
use Rattle.places.specs.PlaceRows.{Placed, Floor, floor, floors_at, field_in, field_at}
use Rattle.moving.specs.Moved.{places_at, places_in, places_inside, places_of, places, if_any, collect}
use Rattle.moving.proofs.Laws.Lists.{collect_append}
use Rattle.moving.proofs.Laws.RowOrder.{Rest, all_fields, place_field, rest_inserted, rest_original, first_is, held_rest}
use Rattle.binding.specs.Sheet.{is_ref_at, ref_at, refs_at}
use Rattle.reading_laws.specs.Operands.{use_is}

-- ---- with the tree

-- of the operands from number `k` on of a field
unfoldable pub refs_of : (z : ℕ) (w : List ℕ) (n k : ℕ) → List Operand → List Place
refs_of z w n k [] = []
refs_of z w n k (o ∷ os) = if_any (only (is_ref_at z o) (record { way = w; field = n; at = k })) (refs_of z w n (suc k) os)

unfoldable mutual
  pub refs_in : (z : ℕ) (w : List ℕ) (n : ℕ) → Fields → List Place
  refs_in z w n end = []
  refs_in z w n (i ▸ fs) =
      when is_inserted (head_of i) then refs_in z w n fs
      else refs_of z w n 0 (head_of i).operands ++ (refs_inside z (w ++ (n ∷ [])) i ++ refs_in z w (suc n) fs)

  pub refs_inside : (z : ℕ) (w : List ℕ) → Item → List Place
  refs_inside z w (plain h) = []
  refs_inside z w (holds h s) = refs_scope z w s

  pub refs_scope : (z : ℕ) (w : List ℕ) → Scope → List Place
  refs_scope z w (scope kind name fs) = refs_in z w 0 fs

-- ---- they are those of the rules

-- the operand at a place
ref_is : (s : Scope) (z : ℕ) (p : Place) (x : Placed) (o : Operand) → field_at s p ≡ some x → get_elem? (head_of x.item).operands p.at ≡ some o → ref_at s z p ≡ only (is_ref_at z o) p
unfolding field_at field_in ref_at ◌then◌
ref_is s z p x o e₁ e₂ = let F = then_some (floors_at s p.way) _ x e₁ in go F.0 F.1 F.2
  where
    go : (fs : List Floor) → floors_at s p.way ≡ some fs → field_in fs p.field ≡ some x → (use_at s p then λ u. only (is_ref_at z u.operand) p) ≡ only (is_ref_at z o) p
    go [] q e = no_option x e
    go (f ∷ rest) q e = ap (λ (u : Option Use). u then λ u. only (is_ref_at z u.operand) p) (use_is [] s p f rest x o q e e₂)

module _ (s : Scope) (z : ℕ) where
  refs_of_lem : (w : List ℕ) (n : ℕ) (x : Placed) → ((j : ℕ) → field_at s (record { way = w; field = n; at = j }) ≡ some x) → (k : ℕ) (os : List Operand)
      → ((j : ℕ) → get_elem? (head_of x.item).operands (k + j) ≡ get_elem? os j) → collect (ref_at s z) (places_at w n k os) ≡ refs_of z w n k os
  unfolding places_at collect refs_of
  refs_of_lem w n x field k [] same = refl
  refs_of_lem w n x field k (o ∷ os) same =
      let e : get_elem? (head_of x.item).operands k ≡ some o = ap (get_elem? (head_of x.item).operands) (omega arith) ∙ same 0 in
      ap₂ (λ (r : Option Place) (l : List Place). if_any r l) (ref_is s z (record { way = w; field = n; at = k }) x o (field k) e)
      (refs_of_lem w n x field (suc k) os (λ j. ap (get_elem? (head_of x.item).operands) (omega arith) ∙ same (suc j)))

  next_field : (f : Floor) (n row : ℕ) (i : Item) (fs : Fields) → Rest s f n row (i ▸ fs) → ((m : ℕ) → Rest s f m (row + length (item_rows i)) fs → collect (ref_at s z) (places_in f.level.way m fs) ≡ refs_in z f.level.way m fs)
      → (is_inserted (head_of i) ≡ false → collect (ref_at s z) (places_inside (f.level.way ++ (n ∷ [])) i) ≡ refs_inside z (f.level.way ++ (n ∷ [])) i)
      → collect (ref_at s z) (places_in f.level.way n (i ▸ fs)) ≡ refs_in z f.level.way n (i ▸ fs)
  unfolding places_in refs_in when◌then◌else◌
  next_field f n row i fs R below inside = go (is_inserted (head_of i)) refl
    where
      w : List ℕ
      w = f.level.way

      go : (b : Bool) → is_inserted (head_of i) ≡ b
          → collect (ref_at s z) (when b then places_in w n fs else places_at w n 0 (head_of i).operands ++ (places_inside (w ++ (n ∷ [])) i ++ places_in w (suc n) fs))
          ≡ (when b then refs_in z w n fs else refs_of z w n 0 (head_of i).operands ++ (refs_inside z (w ++ (n ∷ [])) i ++ refs_in z w (suc n) fs))
      go true e = below n (rest_inserted e R)
      go false e =
          let x : Placed = record { row = row; item = i } in
          let own = refs_of_lem w n x (place_field R x (first_is row i fs e)) 0 (head_of i).operands (λ j. ap (get_elem? (head_of i).operands) (omega arith)) in
          collect_append (ref_at s z) (places_at w n 0 (head_of i).operands) (places_inside (w ++ (n ∷ [])) i ++ places_in w (suc n) fs)
          ∙ ap₂ (λ (a b : List Place). a ++ b) own
          (collect_append (ref_at s z) (places_inside (w ++ (n ∷ [])) i) (places_in w (suc n) fs) ∙ ap₂ (λ (a b : List Place). a ++ b) (inside e) (below (suc n) (rest_original e R)))

  mutual
    unfolding places_in refs_in collect head_of Readings.held

    refs_in_lem : (fs : Fields) (f : Floor) (n row : ℕ) → Rest s f n row fs → collect (ref_at s z) (places_in f.level.way n fs) ≡ refs_in z f.level.way n fs
    refs_in_lem end f n row R = refl
    refs_in_lem (i ▸ fs) f n row R = next_field f n row i fs R (λ m Q. refs_in_lem fs f m (row + length (item_rows i)) Q) (λ b. refs_inside_lem i f n row fs b R)

    refs_inside_lem : (i : Item) (f : Floor) (n row : ℕ) (fs : Fields) → is_inserted (head_of i) ≡ false → Rest s f n row (i ▸ fs)
        → collect (ref_at s z) (places_inside (f.level.way ++ (n ∷ [])) i) ≡ refs_inside z (f.level.way ++ (n ∷ [])) i
    refs_inside_lem (plain h) f n row fs b R = refl
    refs_inside_lem (holds h t) f n row fs b R = refs_scope_lem t (f.level.way ++ (n ∷ [])) (PlaceRows.inside_of (record { row = row; item = holds h t })) (held_rest (fields_of t) b refl R)

    refs_scope_lem : (t : Scope) (w : List ℕ) (row : ℕ) → Rest s (floor (level w (fields_of t)) row) 0 row (fields_of t) → collect (ref_at s z) (places_of w t) ≡ refs_scope z w t
    refs_scope_lem (scope kind name fs) w row R = refs_in_lem fs (floor (level w fs) row) 0 row R

  pub refs_are : refs_at s z ≡ refs_scope z [] s
  unfolding refs_at places Readings.root
  refs_are = refs_scope_lem s [] 1 (all_fields s)

-- ---- without operands' numbers, and without inserted fields

module _ (z : ℕ) where
  blank_ref : (o : Operand) → is_ref_at z (blank_operand o) ≡ is_ref_at z o
  unfolding is_ref_at blank_operand
  blank_ref (ref space at paths y) = refl
  blank_ref (outer space up at y) = refl
  blank_ref (case name y) = refl

  blank_of : (w : List ℕ) (n k : ℕ) (os : List Operand) → refs_of z w n k (map blank_operand os) ≡ refs_of z w n k os
  unfolding refs_of
  blank_of w n k [] = refl
  blank_of w n k (o ∷ os) = ap₂ (λ (b : Bool) (l : List Place). if_any (only b (record { way = w; field = n; at = k })) l) (blank_ref o) (blank_of w n (suc k) os)

  blank_head_lem : (i : Item) → head_of (blank_item i) ≡ blank_head (head_of i)
  unfolding head_of blank
  blank_head_lem (plain h) = refl
  blank_head_lem (holds h s) = refl

  blank_inserted : (h : Head) → is_inserted (blank_head h) ≡ is_inserted h
  unfolding is_inserted blank_head with_operands
  blank_inserted h = refl

  item_blank : (w : List ℕ) (n : ℕ) (i : Item) (fs : Fields) → refs_inside z (w ++ (n ∷ [])) (blank_item i) ≡ refs_inside z (w ++ (n ∷ [])) i → ((m : ℕ) → refs_in z w m (blank_fields fs) ≡ refs_in z w m fs)
      → refs_in z w n (blank_item i ▸ blank_fields fs) ≡ refs_in z w n (i ▸ fs)
  unfolding refs_in blank_head with_operands
  item_blank w n i fs inside more =
      ap (λ (h : Head). when is_inserted h then refs_in z w n (blank_fields fs) else refs_of z w n 0 h.operands ++ (refs_inside z (w ++ (n ∷ [])) (blank_item i) ++ refs_in z w (suc n) (blank_fields fs))) (blank_head_lem i)
      ∙ (ap₂ (λ (b : Bool) (l : List Place). when b then refs_in z w n (blank_fields fs) else l ++ (refs_inside z (w ++ (n ∷ [])) (blank_item i) ++ refs_in z w (suc n) (blank_fields fs))) (blank_inserted (head_of i)) (blank_of w n 0 (head_of i).operands)
      ∙ (ap₂ (λ (a b : List Place). when is_inserted (head_of i) then a else refs_of z w n 0 (head_of i).operands ++ (b ++ refs_in z w (suc n) (blank_fields fs))) (more n) inside
      ∙ ap (λ (a : List Place). when is_inserted (head_of i) then refs_in z w n fs else refs_of z w n 0 (head_of i).operands ++ (refs_inside z (w ++ (n ∷ [])) i ++ a)) (more (suc n))))

  mutual
    unfolding refs_in blank

    fields_blank : (fs : Fields) (w : List ℕ) (n : ℕ) → refs_in z w n (blank_fields fs) ≡ refs_in z w n fs
    fields_blank end w n = refl
    fields_blank (i ▸ fs) w n = item_blank w n i fs (inside_blank i (w ++ (n ∷ []))) (λ m. fields_blank fs w m)

    inside_blank : (i : Item) (w : List ℕ) → refs_inside z w (blank_item i) ≡ refs_inside z w i
    inside_blank (plain h) w = refl
    inside_blank (holds h s) w = scope_blank s w

    scope_blank : (s : Scope) (w : List ℕ) → refs_scope z w (blank s) ≡ refs_scope z w s
    scope_blank (scope kind name fs) w = fields_blank fs w 0

  without_head : (i : Item) → head_of (without_item i) ≡ head_of i
  unfolding head_of without
  without_head (plain h) = refl
  without_head (holds h s) = refl

  item_without : (w : List ℕ) (n : ℕ) (i : Item) (fs : Fields) → refs_inside z (w ++ (n ∷ [])) (without_item i) ≡ refs_inside z (w ++ (n ∷ [])) i → ((m : ℕ) → refs_in z w m (without_fields fs) ≡ refs_in z w m fs)
      → refs_in z w n (without_fields (i ▸ fs)) ≡ refs_in z w n (i ▸ fs)
  unfolding refs_in without when◌then◌else◌
  item_without w n i fs inside more = go (is_inserted (head_of i)) refl
    where
      old : is_inserted (head_of i) ≡ false → refs_in z w n (without_item i ▸ without_fields fs) ≡ refs_of z w n 0 (head_of i).operands ++ (refs_inside z (w ++ (n ∷ [])) i ++ refs_in z w (suc n) fs)
      old e =
          ap (λ (h : Head). when is_inserted h then refs_in z w n (without_fields fs) else refs_of z w n 0 h.operands ++ (refs_inside z (w ++ (n ∷ [])) (without_item i) ++ refs_in z w (suc n) (without_fields fs))) (without_head i)
          ∙ (ap (λ (b : Bool). when b then refs_in z w n (without_fields fs) else refs_of z w n 0 (head_of i).operands ++ (refs_inside z (w ++ (n ∷ [])) (without_item i) ++ refs_in z w (suc n) (without_fields fs))) e
          ∙ ap₂ (λ (a b : List Place). refs_of z w n 0 (head_of i).operands ++ (a ++ b)) inside (more (suc n)))

      go : (b : Bool) → is_inserted (head_of i) ≡ b → refs_in z w n (when b then without_fields fs else without_item i ▸ without_fields fs)
          ≡ (when b then refs_in z w n fs else refs_of z w n 0 (head_of i).operands ++ (refs_inside z (w ++ (n ∷ [])) i ++ refs_in z w (suc n) fs))
      go true e = more n
      go false e = old e

  mutual
    unfolding refs_in without

    fields_without : (fs : Fields) (w : List ℕ) (n : ℕ) → refs_in z w n (without_fields fs) ≡ refs_in z w n fs
    fields_without end w n = refl
    fields_without (i ▸ fs) w n = item_without w n i fs (inside_without i (w ++ (n ∷ []))) (λ m. fields_without fs w m)

    inside_without : (i : Item) (w : List ℕ) → refs_inside z w (without_item i) ≡ refs_inside z w i
    inside_without (plain h) w = refl
    inside_without (holds h s) w = scope_without s w

    scope_without : (s : Scope) (w : List ℕ) → refs_scope z w (without s) ≡ refs_scope z w s
    scope_without (scope kind name fs) w = fields_without fs w 0

  -- In an accepted run the references at a place of the input stand where those of the output do.
  pub refs_kept : (before after : Scope) → Kept before after → refs_at before z ≡ refs_at after z
  refs_kept before after K =
      refs_are before z
      ∙ (sym (scope_blank before []) ∙ (ap (refs_scope z []) (sym K.same) ∙ (scope_blank (without after) [] ∙ (scope_without after [] ∙ sym (refs_are after z)))))
