-- Which fields are the same from the back is told by how many rows are: no field has to be found from its end.
use Rattle.std.specs.Prelude.{◌≡◌, Bool, drop}
use Rattle.std.proofs.Math.Path.{refl, ap, ap₂, sym}
use Rattle.std.proofs.Common.{◌∙◌, take-append-drop}
use Rattle.std.proofs.Math.Bool.{true, false}
use mathlib.Core.List.{List, [], ◌∷◌, ◌++◌, map, map-append, reverse, reverse-cons, reverse-append, reverse-reverse, append_assoc, append-nil, head-eq_of_cons-eq, tail-eq_of_cons-eq, cons≢nil}
use Prim.Native.Nat.{ℕ, zero, suc, ◌+◌, ◌-◌, ◌≤◌}
use native.Mathlib.Omega.{arith}
use Rattle.std.proofs.Math.Dec.{leb}
use Rattle.std.proofs.Math.ListN.{length, take, length-reverse}
use Rattle.std.proofs.lemmas.List.{length-map}
use Rattle.std.proofs.Math.Seq.{take-append_seam}
use Rattle.rules.specs.Tools.{when◌then◌else◌}
use Rattle.rules.specs.Rows.{Row}
use Rattle.rules.specs.Tree.{Item, item_rows}
use Rattle.comparing.specs.Compare.{Choice, blur, same}
use Rattle.rules.specs.Laws.ToolLaws.{leb-true, leb-false, leb_le}
use Rattle.comparing.specs.Laws.SameRows.{same_equal, equal_same}
use Rattle.comparing.specs.Laws.FieldsFromRows.{items_rows, last_field}
use Rattle.comparing.proofs.Laws.Sides.{item_filled}

-- how many fields are the same from the front
unfoldable pub alikes : Choice → (ls rs : List Item) → ℕ
alikes c [] rs = 0
alikes c (l ∷ ls) [] = 0
alikes c (l ∷ ls) (r ∷ rs) = when same c (item_rows l) (item_rows r) then suc (alikes c ls rs) else 0

-- how many rows are
unfoldable pub common : Choice → (xs ys : List Row) → ℕ
common c [] ys = 0
common c (x ∷ xs) [] = 0
common c (x ∷ xs) (y ∷ ys) = when same c (x ∷ []) (y ∷ []) then suc (common c xs ys) else 0

-- how many of these fields have at most `n` rows together
unfoldable pub fitting : (n : ℕ) → List Item → ℕ
fitting n [] = 0
fitting n (i ∷ is) = when leb (length (item_rows i)) n then suc (fitting (n - length (item_rows i)) is) else 0

-- the rows of fields, the last field and the last row first
unfoldable pub back_rows : List Item → List Row
back_rows [] = []
back_rows (i ∷ is) = reverse (item_rows i) ++ back_rows is

module _ (c : Choice) where
  -- ---- common rows

  common_same : (xs ys xs' ys' : List Row) → map (blur c) xs ≡ map (blur c) ys → common c (xs ++ xs') (ys ++ ys') ≡ length xs + common c xs' ys'
  unfolding common when◌then◌else◌
  common_same [] [] xs' ys' e = omega arith
  common_same [] (y ∷ ys) xs' ys' e = absurd (cons≢nil (sym e))
  common_same (x ∷ xs) [] xs' ys' e = absurd (cons≢nil e)
  common_same (x ∷ xs) (y ∷ ys) xs' ys' e =
      rw (equal_same c (x ∷ []) (y ∷ []) (ap (λ (r : Row). r ∷ []) (head-eq_of_cons-eq e)), common_same xs ys xs' ys' (tail-eq_of_cons-eq e)) (omega arith)

  common_equal : (n : ℕ) (xs ys : List Row) → n ≤ common c xs ys → take n (map (blur c) xs) ≡ take n (map (blur c) ys)
  unfolding common when◌then◌else◌
  common_equal zero xs ys h = refl
  common_equal (suc n) [] ys h = absurd (omega arith)
  common_equal (suc n) (x ∷ xs) [] h = absurd (omega arith)
  common_equal (suc n) (x ∷ xs) (y ∷ ys) h = go (same c (x ∷ []) (y ∷ [])) refl h (λ k. common_equal n xs ys k)
    where
      go : (b : Bool) → same c (x ∷ []) (y ∷ []) ≡ b → suc n ≤ (when b then suc (common c xs ys) else 0)
          → (n ≤ common c xs ys → take n (map (blur c) xs) ≡ take n (map (blur c) ys))
          → take (suc n) (map (blur c) (x ∷ xs)) ≡ take (suc n) (map (blur c) (y ∷ ys))
      go true s k rec = ap₂ (λ (r : Row) (l : List Row). r ∷ l) (head-eq_of_cons-eq (same_equal c (x ∷ []) (y ∷ []) s)) (rec (omega arith))
      go false s k rec = absurd (omega arith)

  -- ---- lists from the back

  map_reverse : {A B : Type 0} (f : A → B) (xs : List A) → map f (reverse xs) ≡ reverse (map f xs)
  map_reverse f [] = refl
  map_reverse f (x ∷ xs) = ap (map f) (reverse-cons x xs) ∙ map-append f (reverse xs) (x ∷ []) ∙ ap (λ (l : List _). l ++ (f x ∷ [])) (map_reverse f xs) ∙ sym (reverse-cons (f x) (map f xs))

  items_append : (is js : List Item) → items_rows (is ++ js) ≡ items_rows is ++ items_rows js
  unfolding items_rows
  items_append [] js = refl
  items_append (i ∷ is) js = ap (λ (l : List Row). item_rows i ++ l) (items_append is js) ∙ sym (append_assoc (item_rows i) (items_rows is) (items_rows js))

  back_items : (is : List Item) → reverse (back_rows is) ≡ items_rows (reverse is)
  unfolding back_rows items_rows
  back_items [] = refl
  back_items (i ∷ is) =
      reverse-append (reverse (item_rows i)) (back_rows is)
      ∙ ap₂ (λ (x y : List Row). x ++ y) (back_items is) (reverse-reverse (item_rows i) ∙ sym (append-nil (item_rows i)))
      ∙ sym (items_append (reverse is) (i ∷ [])) ∙ ap items_rows (sym (reverse-cons i is))

  -- fields, the last one first, whose last rows are those of a field: it is the last one
  last_same : (l r : Item) (rs : List Item) (more : List Row) → length (item_rows l) ≤ common c (reverse (item_rows l) ++ more) (back_rows (r ∷ rs))
      → map (blur c) (item_rows l) ≡ map (blur c) (item_rows r)
  last_same l r rs more h =
      let n = length (item_rows l) in
      let mine = map (blur c) (reverse (item_rows l)) in
      let theirs = map (blur c) (back_rows (r ∷ rs)) in
      let size : length mine ≡ n = length-map (reverse (item_rows l)) (blur c) ∙ length-reverse (item_rows l) in
      let first : mine ≡ take n theirs =
      sym (take-append_seam mine (map (blur c) more)) ∙ ap (λ (k : ℕ). take k (mine ++ map (blur c) more)) size ∙ ap (take n) (sym (map-append (blur c) (reverse (item_rows l)) more))
      ∙ common_equal n (reverse (item_rows l) ++ more) (back_rows (r ∷ rs)) h in
      let split : theirs ≡ mine ++ drop n theirs = sym (take-append-drop n theirs) ∙ ap (λ (x : List Row). x ++ drop n theirs) (sym first) in
      let turned : reverse mine ≡ map (blur c) (item_rows l) = ap reverse (map_reverse (blur c) (item_rows l)) ∙ reverse-reverse (map (blur c) (item_rows l)) in
      let ends : map (blur c) (items_rows (reverse (r ∷ rs))) ≡ reverse (drop n theirs) ++ map (blur c) (item_rows l) =
      ap (map (blur c)) (sym (back_items (r ∷ rs))) ∙ map_reverse (blur c) (back_rows (r ∷ rs)) ∙ ap reverse split ∙ reverse-append mine (drop n theirs)
      ∙ ap (λ (x : List Row). reverse (drop n theirs) ++ x) turned in
      let w = last_field c (reverse (r ∷ rs)) l (reverse (drop n theirs)) ends in
      let fields : map (map (blur c)) (map item_rows (r ∷ rs)) ≡ map (blur c) (item_rows l) ∷ reverse w.0 =
      sym (reverse-reverse (map (map (blur c)) (map item_rows (r ∷ rs))))
      ∙ ap reverse (sym (map_reverse (map (blur c)) (map item_rows (r ∷ rs))) ∙ ap (map (map (blur c))) (sym (map_reverse item_rows (r ∷ rs))) ∙ w.1)
      ∙ reverse-append w.0 (map (blur c) (item_rows l) ∷ []) in
      sym (head-eq_of_cons-eq fields)

  common_none : (xs : List Row) → common c xs [] ≡ 0
  unfolding common
  common_none [] = refl
  common_none (x ∷ xs) = refl

  never_true : (b : Bool) → ¬ (b ≡ true) → b ≡ false
  never_true true h = absurd (h refl)
  never_true false h = refl

  -- a field that is not the same has more rows than are the same
  too_long : (l r : Item) (rs : List Item) (more : List Row) → same c (item_rows l) (item_rows r) ≡ false
      → leb (length (item_rows l)) (common c (reverse (item_rows l) ++ more) (back_rows (r ∷ rs))) ≡ false
  too_long l r rs more s =
      never_true (leb (length (item_rows l)) (common c (reverse (item_rows l) ++ more) (back_rows (r ∷ rs)))) (λ e.
      let both : true ≡ false = sym (equal_same c (item_rows l) (item_rows r) (last_same l r rs more (leb_le _ _ e))) ∙ s in
      let no_way : ◌≡◌ {A = ℕ} 0 1 = cc in omega arith)

  same_long : (l r : Item) (ls rs : List Item) → same c (item_rows l) (item_rows r) ≡ true
      → common c (back_rows (l ∷ ls)) (back_rows (r ∷ rs)) ≡ length (item_rows l) + common c (back_rows ls) (back_rows rs)
  unfolding back_rows
  same_long l r ls rs s =
      let turned : map (blur c) (reverse (item_rows l)) ≡ map (blur c) (reverse (item_rows r)) =
      map_reverse (blur c) (item_rows l) ∙ ap reverse (same_equal c (item_rows l) (item_rows r) s) ∙ sym (map_reverse (blur c) (item_rows r)) in
      omega (arith, common_same (reverse (item_rows l)) (reverse (item_rows r)) (back_rows ls) (back_rows rs) turned, length-reverse (item_rows l))

  -- Of fields, the last one first: as many are the same as have together no more rows than are the same.
  pub backward : (ls rs : List Item) → alikes c ls rs ≡ fitting (common c (back_rows ls) (back_rows rs)) ls
  unfolding alikes fitting when◌then◌else◌
  backward [] rs = refl
  backward (l ∷ ls) [] = unfold back_rows in rw (common_none (reverse (item_rows l) ++ back_rows ls), leb-false (length (item_rows l)) 0 (item_filled l))
  backward (l ∷ ls) (r ∷ rs) = go (same c (item_rows l) (item_rows r)) refl (backward ls rs)
    where
      go : (b : Bool) → same c (item_rows l) (item_rows r) ≡ b → alikes c ls rs ≡ fitting (common c (back_rows ls) (back_rows rs)) ls
          → (when b then suc (alikes c ls rs) else 0) ≡ fitting (common c (back_rows (l ∷ ls)) (back_rows (r ∷ rs))) (l ∷ ls)
      go true s rec =
          let n = length (item_rows l) in
          let k = common c (back_rows ls) (back_rows rs) in
          let low : n ≤ n + k = omega arith in
          let fits : leb n (n + k) ≡ true = leb-true low in
          let others : n + k - n ≡ k = omega arith in
          rw (same_long l r ls rs s, fits, others) (ap suc rec)
      go false s rec =
          let long : leb (length (item_rows l)) (common c (back_rows (l ∷ ls)) (back_rows (r ∷ rs))) ≡ false = unfold back_rows in too_long l r rs (back_rows ls) s in
          rw long
