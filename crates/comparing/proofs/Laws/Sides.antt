-- The pairs of a comparison have all rows of both forms, in order; and there is no differing one exactly if the forms are equal as they count.
use Rattle.std.specs.Prelude.{◌≡◌, true, ◌+◌, ◌≤◌, eqb, length}
use Rattle.std.proofs.Math.Path.{refl, sym}
use Rattle.std.proofs.Common.{ap, ap₂, ◌∙◌, arith}
use mathlib.Core.List.{List, [], ◌∷◌, ◌++◌, map, map-append, reverse, reverse_aux, reverse-reverse, append_assoc, append_cancel_right, cons≢nil, head-eq_of_cons-eq, tail-eq_of_cons-eq}
use Rattle.rules.specs.Tools.{when◌then◌else◌}
use Rattle.rules.specs.Rows.{Row, Open, Close}
use Rattle.rules.specs.Tree.{Scope, scope, Fields, Item, plain, holds, head_of, head_rows, flatten, fields_rows, item_rows}
use Rattle.comparing.specs.Compare.{Choice, blur, same, left_only, right_only, differing, opening, Pair, alike, differs, items, only_left, only_right, rest, front, mirrored, field_pairs, open_pair, form_pairs}
use Rattle.rules.specs.Laws.ToolLaws.{if_ok_lem, All, done, ◌&◌, all_append}
use Rattle.comparing.specs.Laws.SameRows.{same_equal, equal_same}
use Rattle.comparing.specs.Laws.FieldsFromRows.{items_rows, fields_items, fields_equal}

-- ---- what pairs have

unfoldable pub lefts : List Pair → List Row
lefts [] = []
lefts (alike l r ∷ ps) = l ++ lefts ps
lefts (differs k l r ∷ ps) = l ++ lefts ps

unfoldable pub rights : List Pair → List Row
rights [] = []
rights (alike l r ∷ ps) = r ++ rights ps
rights (differs k l r ∷ ps) = r ++ rights ps

-- what is alike is equal as it counts
abbrev pub Equal : Choice → Pair → Type 0
Equal c (alike l r) = map (blur c) l ≡ map (blur c) r
Equal c (differs k l r) = Unit {0}

abbrev pub Alike : Pair → Type 0
Alike (alike l r) = Unit {0}
Alike (differs k l r) = ⊥

-- a differing pair has rows
abbrev pub Filled : Pair → Type 0
Filled (alike l r) = Unit {0}
Filled (differs k l r) = 1 ≤ length l + length r

-- ---- fields side by side

data Beside (c : Choice) : List Item → List Item → List Pair → Type 0 where
  none : Beside c [] [] []
  both : {l r : Item} {ls rs : List Item} {ps : List Pair} → same c (item_rows l) (item_rows r) ≡ true → Beside c ls rs ps → Beside c (l ∷ ls) (r ∷ rs) (alike (item_rows l) (item_rows r) ∷ ps)
  other : {l r : Item} {ls rs : List Item} {ps : List Pair} → Beside c ls rs ps → Beside c (l ∷ ls) (r ∷ rs) (differs differing (item_rows l) (item_rows r) ∷ ps)
  left : {l : Item} {ls rs : List Item} {ps : List Pair} → Beside c ls rs ps → Beside c (l ∷ ls) rs (differs left_only (item_rows l) [] ∷ ps)
  right : {r : Item} {ls rs : List Item} {ps : List Pair} → Beside c ls rs ps → Beside c ls (r ∷ rs) (differs right_only [] (item_rows r) ∷ ps)

module _ (c : Choice) where
  turned : {ls rs ls' rs' : List Item} {ps ps' : List Pair} → Beside c ls rs ps → Beside c ls' rs' ps' → Beside c (reverse_aux ls ls') (reverse_aux rs rs') (reverse_aux ps ps')
  turned none b = b
  turned (both h a) b = turned a (both h b)
  turned (other a) b = turned a (other b)
  turned (left a) b = turned a (left b)
  turned (right a) b = turned a (right b)

  -- side by side, whatever the fields
  abbrev Aligns : (List Item → List Item → List Pair) → Type 0
  Aligns go = (ls rs : List Item) → Beside c ls rs (go ls rs)

  mirrored_aligns : (go : List Item → List Item → List Pair) → Aligns go → Aligns (mirrored go)
  unfolding mirrored
  mirrored_aligns go h ls rs =
      let b : Beside c (reverse (reverse ls)) (reverse (reverse rs)) (reverse (go (reverse ls) (reverse rs))) = turned (h (reverse ls) (reverse rs)) none in
      rw (reverse-reverse ls, reverse-reverse rs) at b

  front_aligns : (go : List Item → List Item → List Pair) → Aligns go → Aligns (front c go)
  unfolding front
  front_aligns go h [] rs = h [] rs
  front_aligns go h (l ∷ ls) [] = h (l ∷ ls) []
  front_aligns go h (l ∷ ls) (r ∷ rs) =
      if_ok_lem (Beside c (l ∷ ls) (r ∷ rs)) (same c (item_rows l) (item_rows r)) _ _ (λ e. both e (front_aligns go h ls rs)) (λ e. h (l ∷ ls) (r ∷ rs))

  rights_align : (rs : List Item) → Beside c [] rs (map only_right rs)
  unfolding only_right
  rights_align [] = none
  rights_align (r ∷ rs) = right (rights_align rs)

  lefts_align : (ls rs : List Item) → Beside c ls rs (map only_left ls ++ map only_right rs)
  unfolding only_left
  lefts_align [] rs = rights_align rs
  lefts_align (l ∷ ls) rs = left (lefts_align ls rs)

  rest_aligns : Aligns rest
  unfolding rest only_left only_right
  rest_aligns [] rs = rights_align rs
  rest_aligns (l ∷ []) [] = left none
  rest_aligns (l ∷ []) (r ∷ []) = if_ok_lem (Beside c (l ∷ []) (r ∷ [])) (eqb (head_of l).code (head_of r).code) _ _ (λ e. other none) (λ e. left (right none))
  rest_aligns (l ∷ []) (r ∷ r' ∷ rs) = left (rights_align (r ∷ r' ∷ rs))
  rest_aligns (l ∷ l' ∷ ls) rs = lefts_align (l ∷ l' ∷ ls) rs

  fields_align : Aligns (field_pairs c)
  unfolding field_pairs
  fields_align = front_aligns _ (mirrored_aligns _ (front_aligns _ (mirrored_aligns _ rest_aligns)))

-- ---- all of both forms

-- pairs that have these rows, and of which those alike are equal
pub record Sides (c : Choice) (left right : List Row) (ps : List Pair) : Type 0 where
  pub all_left : lefts ps ≡ left
  pub all_right : rights ps ≡ right
  pub equal : All (Equal c) ps

beside_sides : (c : Choice) (ls rs : List Item) (ps : List Pair) → Beside c ls rs ps → Sides c (items_rows ls) (items_rows rs) ps
unfolding lefts rights items_rows
beside_sides c _ _ _ none = record { all_left = refl; all_right = refl; equal = done }
beside_sides c _ _ _ (both {l = l} {r = r} h b) =
    let s = beside_sides c _ _ _ b in
    record { all_left = rw s.all_left; all_right = rw s.all_right; equal = same_equal c (item_rows l) (item_rows r) h & s.equal }
beside_sides c _ _ _ (other b) =
    let s = beside_sides c _ _ _ b in
    record { all_left = rw s.all_left; all_right = rw s.all_right; equal = tt & s.equal }
beside_sides c _ _ _ (left b) =
    let s = beside_sides c _ _ _ b in
    record { all_left = rw s.all_left; all_right = s.all_right; equal = tt & s.equal }
beside_sides c _ _ _ (right b) =
    let s = beside_sides c _ _ _ b in
    record { all_left = s.all_left; all_right = rw s.all_right; equal = tt & s.equal }

pub fields_sides : (c : Choice) (fs fs' : Fields) → Sides c (fields_rows fs) (fields_rows fs') (field_pairs c (items fs) (items fs'))
fields_sides c fs fs' = rw (fields_items fs, fields_items fs') at (beside_sides c _ _ _ (fields_align c (items fs) (items fs')))

pub item_filled : (i : Item) → 1 ≤ length (item_rows i)
unfolding flatten head_rows
item_filled (plain h) = omega arith
item_filled (holds h s) = omega arith

beside_filled : (c : Choice) (ls rs : List Item) (ps : List Pair) → Beside c ls rs ps → All Filled ps
beside_filled c _ _ _ none = done
beside_filled c _ _ _ (both h b) = tt & beside_filled c _ _ _ b
beside_filled c _ _ _ (other {l = l} {r = r} b) =
    let f : 1 ≤ length (item_rows l) + length (item_rows r) = omega (arith, item_filled l) in f & beside_filled c _ _ _ b
beside_filled c _ _ _ (left {l = l} b) = let f : 1 ≤ length (item_rows l) + 0 = omega (arith, item_filled l) in f & beside_filled c _ _ _ b
beside_filled c _ _ _ (right {r = r} b) = let f : 1 ≤ 0 + length (item_rows r) = omega (arith, item_filled r) in f & beside_filled c _ _ _ b

pub fields_filled : (c : Choice) (ls rs : List Item) → All Filled (field_pairs c ls rs)
fields_filled c ls rs = beside_filled c ls rs _ (fields_align c ls rs)

lefts_append : (ps qs : List Pair) → lefts (ps ++ qs) ≡ lefts ps ++ lefts qs
unfolding lefts
lefts_append [] qs = refl
lefts_append (alike l r ∷ ps) qs = rw (lefts_append ps qs) (sym (append_assoc l (lefts ps) (lefts qs)))
lefts_append (differs k l r ∷ ps) qs = rw (lefts_append ps qs) (sym (append_assoc l (lefts ps) (lefts qs)))

rights_append : (ps qs : List Pair) → rights (ps ++ qs) ≡ rights ps ++ rights qs
unfolding rights
rights_append [] qs = refl
rights_append (alike l r ∷ ps) qs = rw (rights_append ps qs) (sym (append_assoc r (rights ps) (rights qs)))
rights_append (differs k l r ∷ ps) qs = rw (rights_append ps qs) (sym (append_assoc r (rights ps) (rights qs)))

open_sides : (c : Choice) (l r : List Row) → Sides c (l ++ []) (r ++ []) (open_pair c l r ∷ [])
unfolding open_pair lefts rights
open_sides c l r =
    if_ok_lem (λ (p : Pair). Sides c (l ++ []) (r ++ []) (p ∷ [])) (same c l r) (alike l r) (differs opening l r)
    (λ e. record { all_left = refl; all_right = refl; equal = same_equal c l r e & done })
    (λ e. record { all_left = refl; all_right = refl; equal = tt & done })

sides_append : (c : Choice) (l r l' r' : List Row) (ps qs : List Pair) → Sides c l r ps → Sides c l' r' qs → Sides c (l ++ l') (r ++ r') (ps ++ qs)
sides_append c l r l' r' ps qs s t =
    record {
      all_left = lefts_append ps qs ∙ ap₂ (λ (a b : List Row). a ++ b) s.all_left t.all_left;
      all_right = rights_append ps qs ∙ ap₂ (λ (a b : List Row). a ++ b) s.all_right t.all_right;
      equal = all_append ps qs s.equal t.equal;
    }

-- The pairs of two forms have all rows of both.
pub form_sides : (c : Choice) (a b : Scope) → Sides c (flatten a) (flatten b) (form_pairs c a b)
unfolding form_pairs flatten lefts rights
form_sides c (scope kind name fs) (scope kind' name' fs') =
    sides_append c (Open kind name ∷ []) (Open kind' name' ∷ []) _ _ (open_pair c (Open kind name ∷ []) (Open kind' name' ∷ []) ∷ []) _
    (open_sides c (Open kind name ∷ []) (Open kind' name' ∷ []))
    (sides_append c (fields_rows fs) (fields_rows fs') (Close ∷ []) (Close ∷ []) (field_pairs c (items fs) (items fs')) (alike (Close ∷ []) (Close ∷ []) ∷ []) (fields_sides c fs fs')
    (record { all_left = refl; all_right = refl; equal = refl & done }))

-- ---- equal forms

module _ (c : Choice) where
  front_alike : (go : List Item → List Item → List Pair) → go [] [] ≡ [] → (ls rs : List Item)
      → map (map (blur c)) (map item_rows ls) ≡ map (map (blur c)) (map item_rows rs) → All Alike (front c go ls rs)
  unfolding front when◌then◌else◌
  front_alike go h [] [] e = rw h done
  front_alike go h [] (r ∷ rs) e = absurd (cons≢nil (sym e))
  front_alike go h (l ∷ ls) [] e = absurd (cons≢nil e)
  front_alike go h (l ∷ ls) (r ∷ rs) e =
      rw (equal_same c (item_rows l) (item_rows r) (head-eq_of_cons-eq e)) (tt & front_alike go h ls rs (tail-eq_of_cons-eq e))

  fields_alike : (ls rs : List Item) → map (map (blur c)) (map item_rows ls) ≡ map (map (blur c)) (map item_rows rs) → All Alike (field_pairs c ls rs)
  unfolding field_pairs mirrored front rest
  fields_alike ls rs e = front_alike (mirrored (front c (mirrored rest))) refl ls rs e

  open_alike : (l r : List Row) → map (blur c) l ≡ map (blur c) r → Alike (open_pair c l r)
  unfolding open_pair when◌then◌else◌
  open_alike l r e = rw (equal_same c l r e) tt

  -- Forms that are equal as they count have no differing pair.
  pub forms_alike : (a b : Scope) → map (blur c) (flatten a) ≡ map (blur c) (flatten b) → All Alike (form_pairs c a b)
  unfolding form_pairs flatten blur
  forms_alike (scope kind name fs) (scope kind' name' fs') e =
      let same-open : blur c (Open kind name) ≡ blur c (Open kind' name') = head-eq_of_cons-eq e in
      let inner : map (blur c) (fields_rows fs) ++ (Close ∷ []) ≡ map (blur c) (fields_rows fs') ++ (Close ∷ []) =
      sym (map-append (blur c) (fields_rows fs) (Close ∷ [])) ∙ tail-eq_of_cons-eq e ∙ map-append (blur c) (fields_rows fs') (Close ∷ []) in
      open_alike (Open kind name ∷ []) (Open kind' name' ∷ []) (ap (λ (x : Row). x ∷ []) same-open)
      & all_append (field_pairs c (items fs) (items fs')) (alike (Close ∷ []) (Close ∷ []) ∷ [])
      (fields_alike (items fs) (items fs') (fields_equal c fs fs' (append_cancel_right _ _ (Close ∷ []) inner))) (tt & done)
