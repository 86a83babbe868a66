-- What the code finds alike in the rows of two forms is what the rules find alike in their fields.
use mathlib.Core.Path.{◌≡◌, refl, sym, ap, ap₂, ◌∙◌}
use mathlib.Core.Bool.{Bool, true, false, ◌&&◌, and-true, and_assoc}
use mathlib.Core.List.{List, [], ◌∷◌, ◌++◌, map, reverse, reverse-cons}
use Prim.Native.Nat.{ℕ, zero, suc, ◌+◌, ◌-◌, ◌/◌, ◌<◌, ◌≤◌}
use native.Mathlib.Omega.{arith}
use lib.Dec.{eqb, leb, ltb}
use lib.ListN.{length, take, drop, length-append, length-map}
use borrow.Author.Tests.{lt-ltb, le-leb, lt-leb, eqb-true, eqb-false}
use Rattle.kit.specs.Pick.{pick}
use Rattle.rules.specs.Tools.{when◌then◌else◌}
use Rattle.rules.specs.Rows.{Raw, raw, Row, encode}
use Rattle.rules.specs.Tree.{Item, item_rows}
use Rattle.rules.specs.Answer.{same_numbers}
use Rattle.comparing.specs.Compare.{Choice, blur, six_parts, rows_parts, same}
use Rattle.comparing.specs.Laws.SameRows.{same_equal}
use Rattle.comparing.specs.Laws.FieldsFromRows.{items_rows}
use Rattle.comparing.proofs.Laws.Backward.{alikes}
use Rattle.parts.specs.PartsAt.{parts_at}
use Rattle.matched.specs.Counted.{same_t}
use Rattle.matched.specs.Alike.{same_run_t, same_field_t, next_t, front_t}
use Rattle.matched.proofs.Rows.{same_row}
use Rattle.matched.proofs.Ends.{At, Stands, item_at, stands_next, item_long_lem, item_end}

-- ---- the rows of fields

unfoldable pub size : List Item → ℕ
size is = length (items_rows is)

pub size_cons : (x : Item) (is : List Item) → size (x ∷ is) ≡ length (item_rows x) + size is
unfolding size items_rows
size_cons x is = length-append (item_rows x) (items_rows is)

pub size_append : (xs ys : List Item) → size (xs ++ ys) ≡ size xs + size ys
size_append [] ys = unfold size items_rows in omega arith
size_append (x ∷ xs) ys = let r = size_append xs ys in omega (arith, size_cons x (xs ++ ys), size_cons x xs)

pub size_reverse : (xs : List Item) → size (reverse xs) ≡ size xs
size_reverse [] = refl
size_reverse (x ∷ xs) =
    let r = size_reverse xs in
    let n : size [] ≡ 0 = unfold size items_rows in refl in
    omega (arith, ap size (reverse-cons x xs), size_append (reverse xs) (x ∷ []), size_cons x [], size_cons x xs)

module _ (c : Choice) where
  -- ---- rows that are the same

  same_parts_lem : (a b : Raw) (u v : List ℕ) → same_numbers (six_parts a ++ u) (six_parts b ++ v) ≡ (same_numbers (six_parts a ++ []) (six_parts b ++ []) && same_numbers u v)
  unfolding six_parts same_numbers
  same_parts_lem (raw code b e x y z) (raw code' b' e' x' y' z') u v = simp (and-true, and_assoc)

  same_cons : (x y : Row) (xs ys : List Row) → same c (x ∷ xs) (y ∷ ys) ≡ (same c (x ∷ []) (y ∷ []) && same c xs ys)
  unfolding same rows_parts
  same_cons x y xs ys = same_parts_lem (encode (blur c x)) (encode (blur c y)) (rows_parts (map (blur c) xs)) (rows_parts (map (blur c) ys))

  same_none : same c [] [] ≡ true
  unfolding same rows_parts same_numbers
  same_none = refl

  pick_and : (b t : Bool) → pick b t false ≡ (b && t)
  unfolding pick
  pick_and true t = refl
  pick_and false t = refl

  run_same : (l r : List ℕ) (xs ys : List Row) (i : ℕ) → At l i xs → At r i ys → length xs ≡ length ys → same_run_t c l r i (length xs) ≡ same c xs ys
  unfolding same_run_t
  run_same l r [] [] i a b e = sym same_none
  run_same l r [] (y ∷ ys) i a b e = absurd (omega arith)
  run_same l r (x ∷ xs) [] i a b e = absurd (omega arith)
  run_same l r (x ∷ xs) (y ∷ ys) i a b e =
      pick_and (same_t c (parts_at l i) (parts_at r i)) (same_run_t c l r (i + 1) (length xs))
      ∙ ap₂ (λ (s t : Bool). s && t) (same_row c (parts_at l i) (parts_at r i) x y a.0 b.0) (run_same l r xs ys (i + 1) a.1 b.1 (omega arith))
      ∙ sym (same_cons x y xs ys)

  same_length : (xs ys : List Row) → same c xs ys ≡ true → length xs ≡ length ys
  same_length xs ys e = sym (length-map xs (blur c)) ∙ ap length (same_equal c xs ys e) ∙ length-map ys (blur c)

  never_same : (xs ys : List Row) → (length xs ≡ length ys → ⊥) → same c xs ys ≡ false
  never_same xs ys h = go (same c xs ys) refl
    where
      go : (b : Bool) → same c xs ys ≡ b → same c xs ys ≡ false
      go true e = absurd (h (same_length xs ys e))
      go false e = e

  -- as many from the front have as many rows
  pub alikes_size : (ls rs : List Item) → size (take (alikes c ls rs) ls) ≡ size (take (alikes c ls rs) rs)
  unfolding alikes when◌then◌else◌
  alikes_size [] [] = refl
  alikes_size [] (y ∷ rs) = refl
  alikes_size (x ∷ ls) [] = refl
  alikes_size (x ∷ ls) (y ∷ rs) = go (same c (item_rows x) (item_rows y)) refl (alikes_size ls rs)
    where
      go : (b : Bool) → same c (item_rows x) (item_rows y) ≡ b → size (take (alikes c ls rs) ls) ≡ size (take (alikes c ls rs) rs)
          → size (take (when b then suc (alikes c ls rs) else 0) (x ∷ ls)) ≡ size (take (when b then suc (alikes c ls rs) else 0) (y ∷ rs))
      go true e rec = omega (arith, same_length (item_rows x) (item_rows y) e, size_cons x (take (alikes c ls rs) ls), size_cons y (take (alikes c ls rs) rs))
      go false e rec = refl

  pub alikes_left : (ls rs : List Item) → alikes c ls rs ≤ length ls
  unfolding alikes when◌then◌else◌
  alikes_left [] rs = omega arith
  alikes_left (x ∷ ls) [] = omega arith
  alikes_left (x ∷ ls) (y ∷ rs) = go (same c (item_rows x) (item_rows y)) (alikes_left ls rs)
    where
      go : (b : Bool) → alikes c ls rs ≤ length ls → (when b then suc (alikes c ls rs) else 0) ≤ suc (length ls)
      go true h = omega arith
      go false h = omega arith

  pub alikes_right : (ls rs : List Item) → alikes c ls rs ≤ length rs
  unfolding alikes when◌then◌else◌
  alikes_right [] rs = omega arith
  alikes_right (x ∷ ls) [] = omega arith
  alikes_right (x ∷ ls) (y ∷ rs) = go (same c (item_rows x) (item_rows y)) (alikes_right ls rs)
    where
      go : (b : Bool) → alikes c ls rs ≤ length rs → (when b then suc (alikes c ls rs) else 0) ≤ suc (length rs)
      go true h = omega arith
      go false h = omega arith

  -- ---- from the front

  module _ (l r : List ℕ) where
    field_same : (i : ℕ) (x y : Item) (ls rs : List Item) → Stands l i (x ∷ ls) → Stands r i (y ∷ rs) → same_field_t c l r i ≡ same c (item_rows x) (item_rows y)
    unfolding same_field_t pick
    field_same i x y ls rs s t = rw (item_end l i x ls s, item_end r i y rs t) (go (eqb (i + length (item_rows y)) (i + length (item_rows x))) refl)
      where
        go : (b : Bool) → eqb (i + length (item_rows y)) (i + length (item_rows x)) ≡ b → pick b (same_run_t c l r i (i + length (item_rows x) - i)) false ≡ same c (item_rows x) (item_rows y)
        go true e =
            let h = eqb-true (i + length (item_rows y)) (i + length (item_rows x)) e in
            let n : i + length (item_rows x) - i ≡ length (item_rows x) = omega arith in
            let p : length (item_rows x) ≡ length (item_rows y) = omega arith in
            ap (same_run_t c l r i) n ∙ run_same l r (item_rows x) (item_rows y) i (item_at l i x ls s) (item_at r i y rs t) p
        go false e =
            let h = eqb-false (i + length (item_rows y)) (i + length (item_rows x)) e in
            sym (never_same (item_rows x) (item_rows y) (λ q. h (omega arith)))

    next_none : (i : ℕ) (rs : List Item) → Stands l i [] → next_t c l r i ≡ i
    unfolding next_t pick items_rows
    next_none i rs s = let n = s.count in let h : length l / 16 ≤ i + 1 = omega arith in rw (le-leb _ _ h)

    next_left_only : (i : ℕ) (x : Item) (ls : List Item) → Stands l i (x ∷ ls) → Stands r i [] → next_t c l r i ≡ i
    unfolding next_t pick items_rows
    next_left_only i x ls s t =
        let n = s.count in
        let m = t.count in
        let g : length r / 16 ≤ i + 1 = omega arith in
        let h : i + 1 < length l / 16 = unfold size in omega (arith, item_long_lem x, size_cons x ls) in
        rw (lt-leb _ _ h, le-leb _ _ g)

    next_both : (i : ℕ) (x y : Item) (ls rs : List Item) → Stands l i (x ∷ ls) → Stands r i (y ∷ rs) → next_t c l r i ≡ pick (same c (item_rows x) (item_rows y)) (i + length (item_rows x)) i
    unfolding next_t pick
    next_both i x y ls rs s t =
        let n = s.count in
        let m = t.count in
        let h : i + 1 < length l / 16 = unfold size in omega (arith, item_long_lem x, size_cons x ls) in
        let g : i + 1 < length r / 16 = unfold size in omega (arith, item_long_lem y, size_cons y rs) in
        rw (lt-leb _ _ h, lt-leb _ _ g, field_same i x y ls rs s t, item_end l i x ls s)

    -- the row behind the fields that are the same, in both, and the fields that stand there
    pub record Front (i : ℕ) (ls rs : List Item) (k f : ℕ) : Type 0 where
      pub left : f ≡ i + size (take k ls)
      pub right : f ≡ i + size (take k rs)
      pub stands_left : Stands l f (drop k ls)
      pub stands_right : Stands r f (drop k rs)

    no_size : (n : ℕ) → n ≡ n + size []
    unfolding size items_rows
    no_size n = omega arith

    stays : (i : ℕ) (ls rs : List Item) → Stands l i ls → Stands r i rs → Front i ls rs 0 i
    stays i ls rs s t = record { left = no_size i; right = no_size i; stands_left = s; stands_right = t }

    front_stays : (most i : ℕ) → next_t c l r i ≡ i → front_t c l r i most ≡ i
    unfolding front_t pick
    front_stays zero i e = refl
    front_stays (suc most) i e = go (ltb i (length l / 16))
      where
        low : i ≤ i
        low = omega arith

        go : (b : Bool) → pick b (pick (leb (next_t c l r i) i) i (front_t c l r (next_t c l r i) most)) i ≡ i
        go true = rw (e, le-leb i i low)
        go false = refl

    front_moves : (most i e : ℕ) → i < length l / 16 → next_t c l r i ≡ e → i < e → front_t c l r i (suc most) ≡ front_t c l r e most
    unfolding front_t pick
    front_moves most i e h n g = rw (lt-ltb _ _ h, n, lt-leb _ _ g)

    pub front_is : (most i : ℕ) (ls rs : List Item) → Stands l i ls → Stands r i rs → length l / 16 ≤ i + most → Front i ls rs (alikes c ls rs) (front_t c l r i most)
    unfolding alikes when◌then◌else◌ pick
    front_is most i [] rs s t h = rw (front_stays most i (next_none i rs s)) (stays i [] rs s t)
    front_is most i (x ∷ ls) [] s t h = rw (front_stays most i (next_left_only i x ls s t)) (stays i (x ∷ ls) [] s t)
    front_is zero i (x ∷ ls) (y ∷ rs) s t h = let n = s.count in absurd (omega arith)
    front_is (suc most) i (x ∷ ls) (y ∷ rs) s t h = go (same c (item_rows x) (item_rows y)) refl (front_is most (i + length (item_rows x)) ls rs (stands_next l i x ls s))
      where
        go : (b : Bool) → same c (item_rows x) (item_rows y) ≡ b
            → (Stands r (i + length (item_rows x)) rs → length l / 16 ≤ i + length (item_rows x) + most → Front (i + length (item_rows x)) ls rs (alikes c ls rs) (front_t c l r (i + length (item_rows x)) most))
            → Front i (x ∷ ls) (y ∷ rs) (when b then suc (alikes c ls rs) else 0) (front_t c l r i (suc most))
        go true e rec =
            let n = s.count in
            let p = item_long_lem x in
            let same_long = same_length (item_rows x) (item_rows y) e in
            let to : next_t c l r i ≡ i + length (item_rows x) = next_both i x y ls rs s t ∙ rw e in
            let there : Stands r (i + length (item_rows x)) rs = rw (← same_long) at (stands_next r i y rs t) in
            let f = rec there (omega arith) in
            let at : i < length l / 16 = omega arith in
            let up : i < i + length (item_rows x) = omega arith in
            rw (front_moves most i (i + length (item_rows x)) at to up) (record {
              left = f.left ∙ omega (arith, size_cons x (take (alikes c ls rs) ls));
              right = f.right ∙ omega (arith, size_cons y (take (alikes c ls rs) rs));
              stands_left = f.stands_left;
              stands_right = f.stands_right;
            })
        go false e rec =
            let to : next_t c l r i ≡ i = next_both i x y ls rs s t ∙ rw e in
            rw (front_stays (suc most) i to) (stays i (x ∷ ls) (y ∷ rs) s t)
