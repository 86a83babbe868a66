-- What is left of the fields of two forms, by their rows.
use mathlib.Core.Path.{◌≡◌, refl, sym, ap, ap₂, ◌∙◌}
use mathlib.Core.Bool.{Bool, true, false}
use mathlib.Core.List.{List, [], ◌∷◌, ◌++◌, append-nil, append_assoc, reverse, reverse-cons, reverse-append}
use Prim.Native.Nat.{ℕ, zero, suc, ◌+◌, ◌-◌, ◌/◌, ◌<◌, ◌≤◌}
use native.Mathlib.Omega.{arith}
use lib.Dec.{leb, ltb}
use lib.ListN.{length, take, drop, length-append, length-reverse, length-drop, take-append-drop}
use lib.Seq.{take_at}
use borrow.Author.Tests.{le-ltb, le-leb, lt-leb, leb-true, ltb-true, ltb-false}
use Rattle.kit.specs.Pick.{pick}
use Rattle.rules.specs.Tools.{when◌then◌else◌}
use Rattle.rules.specs.Rows.{Row, Close, encode}
use Rattle.rules.specs.Tree.{Item, item_rows}
use Rattle.comparing.specs.Compare.{Choice, same, rest, field_pairs, entries}
use Rattle.comparing.specs.Laws.FieldsFromRows.{items_rows}
use Rattle.comparing.proofs.Laws.Backward.{alikes, common, fitting, back_rows, backward}
use Rattle.comparing.proofs.Laws.Middle as rules
use Rattle.parts.specs.PartsAt.{parts_at}
use Rattle.matched.specs.declared.fields.Rest.{Rest}
use Rattle.matched.specs.Counted.{raw_of, same_t}
use Rattle.matched.specs.Alike.{end_behind, front_t, more_t, back_t, tail_t, rest_from, front_of, end_of, middle_t}
use Rattle.matched.proofs.Rows.{same_row}
use Rattle.matched.proofs.Ends.{At, at_first, Stands, stands_next, item_long_lem, item_end}
use Rattle.matched.proofs.Agrees.{size, size_cons, size_append, size_reverse, alikes_size, alikes_left, alikes_right, Front, front_is}

-- ---- rows from the back

-- the rows before row e, the last one first
abbrev Down : List ℕ → (e : ℕ) → List Row → Type 0
Down l e [] = Unit {0}
Down l e (x ∷ xs) = (raw_of (parts_at l (e - 1)) ≡ encode x) × Down l (e - 1) xs

down_append : (l : List ℕ) (e : ℕ) (xs ys : List Row) → Down l e xs → Down l (e - length xs) ys → Down l e (xs ++ ys)
down_append l e [] ys d f = let n : e - 0 ≡ e = omega arith in rw n at f
down_append l e (x ∷ xs) ys d f = let n : e - suc (length xs) ≡ e - 1 - length xs = omega arith in (d.0, down_append l (e - 1) xs ys d.1 (rw n at f))

down_all : (l : List ℕ) (i : ℕ) (xs : List Row) → At l i xs → Down l (i + length xs) (reverse xs)
down_all l i [] a = tt
down_all l i (x ∷ xs) a =
    let e : i + 1 + length xs ≡ i + suc (length xs) = omega arith in
    let n : i + suc (length xs) - length (reverse xs) ≡ i + 1 = omega (arith, length-reverse xs) in
    let m : i + 1 - 1 ≡ i = omega arith in
    let first : Down l (i + 1) (x ∷ []) = (rw m a.0, tt) in
    rw (reverse-cons x xs) (down_append l (i + suc (length xs)) (reverse xs) (x ∷ []) (rw e at (down_all l (i + 1) xs a.1)) (rw n first))

back_rows_lem : (is : List Item) → back_rows (reverse is) ≡ reverse (items_rows is)
unfolding items_rows back_rows
back_rows_lem [] = refl
back_rows_lem (i ∷ is) =
    ap back_rows (reverse-cons i is) ∙ both (reverse is) (i ∷ []) ∙ ap₂ (λ (x y : List Row). x ++ y) (back_rows_lem is) (append-nil (reverse (item_rows i)))
    ∙ sym (reverse-append (item_rows i) (items_rows is))
  where
    both : (xs ys : List Item) → back_rows (xs ++ ys) ≡ back_rows xs ++ back_rows ys
    both [] ys = refl
    both (x ∷ xs) ys = ap (λ (l : List Row). reverse (item_rows x) ++ l) (both xs ys) ∙ sym (append_assoc (reverse (item_rows x)) (back_rows xs) (back_rows ys))

module _ (c : Choice) where
  module _ (l r : List ℕ) (from : ℕ) where
    back_is : (xs ys : List Row) (s : ℕ) → length l / 16 ≡ from + length xs + 1 + s → length r / 16 ≡ from + length ys + 1 + s → Down l (from + length xs) xs → Down r (from + length ys) ys
        → back_t c l r from s (length xs) ≡ s + common c xs ys
    unfolding back_t more_t common pick
    back_is [] ys s p q a b = omega arith
    back_is (x ∷ xs) [] s p q a b =
        let h : length r / 16 ≤ from + 1 + s = omega arith in
        rw (le-leb _ _ h) (omega arith)
    back_is (x ∷ xs) (y ∷ ys) s p q a b =
        let h : from + 1 + s < length r / 16 = omega arith in
        let m : length l / 16 - 2 - s ≡ from + suc (length xs) - 1 = omega arith in
        let n : length r / 16 - 2 - s ≡ from + suc (length ys) - 1 = omega arith in
        let m' : from + suc (length xs) - 1 ≡ from + length xs = omega arith in
        let n' : from + suc (length ys) - 1 ≡ from + length ys = omega arith in
        let is : same_t c (parts_at l (length l / 16 - 2 - s)) (parts_at r (length r / 16 - 2 - s)) ≡ same c (x ∷ []) (y ∷ []) =
        same_row c (parts_at l (length l / 16 - 2 - s)) (parts_at r (length r / 16 - 2 - s)) x y (rw m a.0) (rw n b.0) in
        let rec : back_t c l r from (s + 1) (length xs) ≡ s + 1 + common c xs ys = back_is xs ys (s + 1) (omega arith) (omega arith) (rw m' at a.1) (rw n' at b.1) in
        rw (lt-leb _ _ h, is) (go (same c (x ∷ []) (y ∷ [])) rec)
      where
        go : (b : Bool) → back_t c l r from (s + 1) (length xs) ≡ s + 1 + common c xs ys → pick b (back_t c l r from (s + 1) (length xs)) s ≡ s + (when b then suc (common c xs ys) else 0)
        go true e = unfold when◌then◌else◌ in (e ∙ omega arith)
        go false e = unfold when◌then◌else◌ in omega arith

  -- ---- fields that fit

  fit_all : (n : ℕ) (xs : List Item) (x : Item) → size xs + length (item_rows x) ≤ n → fitting n (xs ++ (x ∷ [])) ≡ suc (length xs)
  unfolding fitting when◌then◌else◌
  fit_all n [] x h = rw (le-leb (length (item_rows x)) n (omega arith))
  fit_all n (y ∷ xs) x h =
      let w = size_cons y xs in
      rw (le-leb (length (item_rows y)) n (omega arith)) (ap suc (fit_all (n - length (item_rows y)) xs x (omega arith)))

  fit_less : (n : ℕ) (xs : List Item) (x : Item) → n < size xs + length (item_rows x) → fitting n (xs ++ (x ∷ [])) ≡ fitting n xs
  unfolding fitting when◌then◌else◌ size items_rows
  fit_less n [] x h = rw (lt-leb (length (item_rows x)) n (omega arith))
  fit_less n (y ∷ xs) x h = go (leb (length (item_rows y)) n) refl (fit_less (n - length (item_rows y)) xs x)
    where
      go : (b : Bool) → leb (length (item_rows y)) n ≡ b → (n - length (item_rows y) < size xs + length (item_rows x) → fitting (n - length (item_rows y)) (xs ++ (x ∷ [])) ≡ fitting (n - length (item_rows y)) xs)
          → (when b then suc (fitting (n - length (item_rows y)) (xs ++ (x ∷ []))) else 0) ≡ (when b then suc (fitting (n - length (item_rows y)) xs) else 0)
      go true e rec = ap suc (rec (omega (arith, leb-true (length (item_rows y)) n e, length-append (item_rows y) (items_rows xs))))
      go false e rec = refl

  fit_low : (n : ℕ) (xs : List Item) → fitting n xs ≤ length xs
  unfolding fitting when◌then◌else◌
  fit_low n [] = omega arith
  fit_low n (x ∷ xs) = go (leb (length (item_rows x)) n) (fit_low (n - length (item_rows x)) xs)
    where
      go : (b : Bool) → fitting (n - length (item_rows x)) xs ≤ length xs → (when b then suc (fitting (n - length (item_rows x)) xs) else 0) ≤ suc (length xs)
      go true h = omega arith
      go false h = omega arith

  none_there : size [] ≡ 0
  unfolding size items_rows
  none_there = refl

  take_none : (n : ℕ) → size (take {A = Item} n []) ≡ 0
  unfolding size items_rows
  take_none zero = refl
  take_none (suc n) = refl

  tail_is : (most : ℕ) (l : List ℕ) (k i : ℕ) (is : List Item) → Stands l i is → length l / 16 ≤ i + most → tail_t l k i most ≡ i + size (take (length is - fitting k (reverse is)) is)
  unfolding tail_t pick size
  tail_is zero l k i [] s h = omega (arith, take_none (length {A = Item} [] - fitting k (reverse [])))
  tail_is (suc most) l k i [] s h =
      let n = s.count in
      let g : length l / 16 ≤ i + 1 + k = omega (arith, none_there) in
      rw (le-ltb _ _ g) (omega (arith, take_none (length {A = Item} [] - fitting k (reverse []))))
  tail_is zero l k i (x ∷ is) s h = let n = s.count in absurd (omega arith)
  tail_is (suc most) l k i (x ∷ is) s h = go (ltb (i + 1 + k) (length l / 16)) refl (tail_is most l k (i + length (item_rows x)) is (stands_next l i x is s))
    where
      turned : fitting k (reverse (x ∷ is)) ≡ fitting k (reverse is ++ (x ∷ []))
      turned = ap (fitting k) (reverse-cons x is)

      go : (b : Bool) → ltb (i + 1 + k) (length l / 16) ≡ b
          → (length l / 16 ≤ i + length (item_rows x) + most → tail_t l k (i + length (item_rows x)) most ≡ i + length (item_rows x) + size (take (length is - fitting k (reverse is)) is))
          → pick b (tail_t l k (end_behind l i) most) i ≡ i + size (take (length (x ∷ is) - fitting k (reverse (x ∷ is))) (x ∷ is))
      go true e rec =
          let n = s.count in
          let q : i + 1 + k < length l / 16 = ltb-true _ _ e in
          let w = size_cons x is in
          let v = size_reverse is in
          let less : fitting k (reverse (x ∷ is)) ≡ fitting k (reverse is) = turned ∙ fit_less k (reverse is) x (omega arith) in
          let low : fitting k (reverse is) ≤ length is = omega (arith, fit_low k (reverse is), length-reverse is) in
          let count : suc (length is) - fitting k (reverse is) ≡ suc (length is - fitting k (reverse is)) = omega arith in
          rw (item_end l i x is s, less, count) (rec (omega (arith, item_long_lem x)) ∙ omega (arith, size_cons x (take (length is - fitting k (reverse is)) is)))
      go false e rec =
          let n = s.count in
          let q : length l / 16 ≤ i + 1 + k = ltb-false _ _ e in
          let w = size_cons x is in
          let v = size_reverse is in
          let all : fitting k (reverse (x ∷ is)) ≡ suc (length (reverse is)) = turned ∙ fit_all k (reverse is) x (omega arith) in
          let none : suc (length is) - suc (length (reverse is)) ≡ 0 = omega (arith, length-reverse is) in
          rw (all, none) (omega (arith, none_there))

  -- ---- as many at the back of both have as many rows

  module _ {A : Type 0} where
    last_ones : (g : ℕ) (xs : List A) → g ≤ length xs → take g (reverse xs) ≡ reverse (drop (length xs - g) xs)
    last_ones g xs h =
        let k = length xs - g in
        let turned : reverse xs ≡ reverse (drop k xs) ++ reverse (take k xs) = ap reverse (sym (take-append-drop k xs)) ∙ reverse-append (take k xs) (drop k xs) in
        let many : length (reverse (drop k xs)) ≡ g = omega (arith, length-reverse (drop k xs), length-drop k xs) in
        ap (take g) turned ∙ take_at (reverse (drop k xs)) (reverse (take k xs)) g many

  ends_size : (g : ℕ) (xs : List Item) → g ≤ length xs → size (take (length xs - g) xs) + size (take g (reverse xs)) ≡ size xs
  ends_size g xs h =
      let k = length xs - g in
      let split : size (take k xs ++ drop k xs) ≡ size xs = ap size (take-append-drop k xs) in
      omega (arith, split, size_append (take k xs) (drop k xs), ap size (last_ones g xs h), size_reverse (drop k xs))

  -- ---- what is left

  module _ (l r : List ℕ) where
    -- the fields that are left and those behind them, where they stand, and that they decide the list
    pub record Left (ls rs : List Item) (m : Rest) : Type 0 where
      pub lefts : List Item
      pub rights : List Item
      pub more_left : List Item
      pub more_right : List Item
      pub stands_left : Stands l m.from (lefts ++ more_left)
      pub stands_right : Stands r m.from (rights ++ more_right)
      pub left_end : m.left ≡ m.from + size lefts
      pub right_end : m.right ≡ m.from + size rights
      pub before_right : List Item
      pub all_right : before_right ++ (rights ++ more_right) ≡ rs
      pub starts : m.from ≡ 1 + size before_right
      pub lists : entries 1 1 (field_pairs c ls rs) ≡ entries m.from m.from (rest lefts rights)

    back_count : (f : ℕ) (ls rs : List Item) → Stands l f ls → Stands r f rs → back_t c l r f 0 (length l / 16 - (f + 1)) ≡ common c (back_rows (reverse ls)) (back_rows (reverse rs))
    unfolding size
    back_count f ls rs s t =
        let xs = items_rows ls in
        let ys = items_rows rs in
        let m = s.count in
        let n = t.count in
        let p = length-reverse xs in
        let q = length-reverse ys in
        let many : length l / 16 - (f + 1) ≡ length (reverse xs) = omega arith in
        let down : Down l (f + length (reverse xs)) (reverse xs) = rw p (down_all l f xs (at_first l f xs (Close ∷ []) s.rows)) in
        let down' : Down r (f + length (reverse ys)) (reverse ys) = rw q (down_all r f ys (at_first r f ys (Close ∷ []) t.rows)) in
        let found : back_t c l r f 0 (length (reverse xs)) ≡ 0 + common c (reverse xs) (reverse ys) = back_is l r f (reverse xs) (reverse ys) 0 (omega arith) (omega arith) down down' in
        ap (back_t c l r f 0) many ∙ found ∙ omega arith ∙ sym (ap₂ (common c) (back_rows_lem ls) (back_rows_lem rs))

    -- by where the front ends
    module _ (ls rs : List Item) (f : ℕ) (front : Front c l r 1 ls rs (alikes c ls rs) f) where
      abbrev k : ℕ
      k = alikes c ls rs

      abbrev g : ℕ
      g = alikes c (reverse (drop k ls)) (reverse (drop k rs))

      abbrev lefts : List Item
      lefts = take (length (drop k ls) - g) (drop k ls)

      abbrev rights : List Item
      rights = take (length (drop k rs) - g) (drop k rs)

      left_end_is : tail_t l (back_t c l r f 0 (length l / 16 - (f + 1))) f (length l / 16) ≡ f + size lefts
      left_end_is =
          let fits : fitting (back_t c l r f 0 (length l / 16 - (f + 1))) (reverse (drop k ls)) ≡ g =
          ap (λ (n : ℕ). fitting n (reverse (drop k ls))) (back_count f (drop k ls) (drop k rs) front.stands_left front.stands_right) ∙ sym (backward c (reverse (drop k ls)) (reverse (drop k rs))) in
          tail_is (length l / 16) l (back_t c l r f 0 (length l / 16 - (f + 1))) f (drop k ls) front.stands_left (omega arith)
          ∙ ap (λ (n : ℕ). f + size (take (length (drop k ls) - n) (drop k ls))) fits

      right_end_is : f + size lefts + length r / 16 - length l / 16 ≡ f + size rights
      right_end_is =
          let m : length l / 16 ≡ f + size (drop k ls) + 1 = unfold size in front.stands_left.count in
          let n : length r / 16 ≡ f + size (drop k rs) + 1 = unfold size in front.stands_right.count in
          let low : g ≤ length (drop k ls) = omega (arith, alikes_left c (reverse (drop k ls)) (reverse (drop k rs)), length-reverse (drop k ls)) in
          let low' : g ≤ length (drop k rs) = omega (arith, alikes_right c (reverse (drop k ls)) (reverse (drop k rs)), length-reverse (drop k rs)) in
          omega (arith, m, n, ends_size g (drop k ls) low, ends_size g (drop k rs) low', alikes_size c (reverse (drop k ls)) (reverse (drop k rs)))

      pub left_found : Left ls rs (rest_from f (f + size lefts) (f + size rights))
      left_found =
          record {
            lefts = lefts;
            rights = rights;
            more_left = drop (length (drop k ls) - g) (drop k ls);
            more_right = drop (length (drop k rs) - g) (drop k rs);
            stands_left = rw (take-append-drop (length (drop k ls) - g) (drop k ls)) front.stands_left;
            stands_right = rw (take-append-drop (length (drop k rs) - g) (drop k rs)) front.stands_right;
            before_right = take k rs;
            all_right = rw (take-append-drop (length (drop k rs) - g) (drop k rs)) (take-append-drop k rs);
            starts = front.right;
            left_end = refl;
            right_end = refl;
            lists = rules.middle c 1 1 ls rs k g refl refl ∙ ap₂ (λ (i j : ℕ). entries i j (rest lefts rights)) (unfold size in sym front.left) (unfold size in sym front.right);
          }

    -- What the code finds is what is left.
    pub left_is : (ls rs : List Item) → Stands l 1 ls → Stands r 1 rs → Left ls rs (middle_t c l r)
    unfolding middle_t front_of end_of pick
    left_is ls rs s t =
        let f = front_t c l r 1 (length l / 16) in
        let front : Front c l r 1 ls rs (alikes c ls rs) f = front_is c l r (length l / 16) 1 ls rs s t (omega arith) in
        let m = s.count in
        let n = t.count in
        let two : 2 ≤ length l / 16 = omega arith in
        let two' : 2 ≤ length r / 16 = omega arith in
        rw (le-ltb _ _ two, le-ltb _ _ two', left_end_is ls rs f front, right_end_is ls rs f front) (left_found ls rs f front)
