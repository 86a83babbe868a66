-- The list of a root's fields is that of the rest alone, from the row where the front ends; how many fields stand before and behind it is counted.
use Rattle.std.specs.Prelude.{◌≡◌, Bool, take, drop}
use Rattle.std.proofs.Math.Path.{refl, ap, ap₂}
use Rattle.std.proofs.Common.{sym, ◌∙◌, length-drop, take-append-drop, drop_at}
use Rattle.std.proofs.Math.Bool.{true, false}
use mathlib.Core.List.{List, [], ◌∷◌, ◌++◌, reverse, reverse-append, reverse-reverse}
use Prim.Native.Nat.{ℕ, suc, ◌+◌, ◌-◌, ◌≤◌}
use native.Mathlib.Omega.{arith}
use Rattle.std.proofs.Math.ListN.{length, length-append, length-reverse}
use Rattle.rules.specs.Tools.{when◌then◌else◌}
use Rattle.rules.specs.Tree.{Item, item_rows}
use Rattle.comparing.specs.Compare.{Choice, same, Pair, alike, differs, rest, front, mirrored, field_pairs, Entry, entries}
use Rattle.rules.specs.Laws.ToolLaws.{if_ok_lem, All, done, ◌&◌}
use Rattle.comparing.specs.Laws.FieldsFromRows.{items_rows}
use Rattle.comparing.proofs.Laws.Sides.{Alike}
use Rattle.comparing.proofs.Laws.Kinds.{all_turned}
use Rattle.comparing.proofs.Laws.Lists.{none_listed}
use Rattle.comparing.proofs.Laws.Backward.{alikes}

-- pairs that are alike at the end list nothing
alike_behind : (i j : ℕ) (ps qs : List Pair) → All Alike qs → entries i j (ps ++ qs) ≡ entries i j ps
unfolding entries
alike_behind i j [] qs a = none_listed i j qs a
alike_behind i j (alike l r ∷ ps) qs a = alike_behind (i + length l) (j + length r) ps qs a
alike_behind i j (differs k l r ∷ ps) qs a =
    ap (λ (es : List Entry). record { kind = k; left = i; count = length l; right = j; rows = r } ∷ es) (alike_behind (i + length l) (j + length r) ps qs a)

-- a list without its last `n`, from the back
without_last : {A : Type 0} (n : ℕ) (xs : List A) → n ≤ length xs → reverse (drop n (reverse xs)) ≡ take (length xs - n) xs
without_last n xs h =
    let k = length xs - n in
    let turned : reverse xs ≡ reverse (drop k xs) ++ reverse (take k xs) = ap reverse (sym (take-append-drop k xs)) ∙ reverse-append (take k xs) (drop k xs) in
    let size : length (reverse (drop k xs)) ≡ n = omega (arith, length-reverse (drop k xs), length-drop k xs) in
    ap (λ (l : List _). reverse (drop n l)) turned ∙ ap reverse (drop_at (reverse (drop k xs)) (reverse (take k xs)) n size) ∙ reverse-reverse (take k xs)

module _ (c : Choice) where
  alikes_left : (ls rs : List Item) → alikes c ls rs ≤ length ls
  unfolding alikes
  alikes_left [] rs = omega arith
  alikes_left (l ∷ ls) [] = omega arith
  alikes_left (l ∷ ls) (r ∷ rs) =
      let h = alikes_left ls rs in if_ok_lem (λ (n : ℕ). n ≤ suc (length ls)) (same c (item_rows l) (item_rows r)) (suc (alikes c ls rs)) 0 (λ e. omega arith) (λ e. omega arith)

  alikes_right : (ls rs : List Item) → alikes c ls rs ≤ length rs
  unfolding alikes
  alikes_right [] rs = omega arith
  alikes_right (l ∷ ls) [] = omega arith
  alikes_right (l ∷ ls) (r ∷ rs) =
      let h = alikes_right ls rs in if_ok_lem (λ (n : ℕ). n ≤ suc (length rs)) (same c (item_rows l) (item_rows r)) (suc (alikes c ls rs)) 0 (λ e. omega arith) (λ e. omega arith)

  -- from the front: pairs that are alike, and what `go` makes of the others
  record Split (go : List Item → List Item → List Pair) (ls rs : List Item) (n : ℕ) (ps : List Pair) : Type 0 where
    heads : List Pair
    all_alike : All Alike heads
    splits : ps ≡ heads ++ go (drop n ls) (drop n rs)

  front_splits : (go : List Item → List Item → List Pair) (ls rs : List Item) → Split go ls rs (alikes c ls rs) (front c go ls rs)
  unfolding front alikes when◌then◌else◌
  front_splits go [] rs = record { heads = []; all_alike = done; splits = refl }
  front_splits go (l ∷ ls) [] = record { heads = []; all_alike = done; splits = refl }
  front_splits go (l ∷ ls) (r ∷ rs) = step (same c (item_rows l) (item_rows r)) (front_splits go ls rs)
    where
      step : (b : Bool) → Split go ls rs (alikes c ls rs) (front c go ls rs)
          → Split go (l ∷ ls) (r ∷ rs) (when b then suc (alikes c ls rs) else 0) (when b then alike (item_rows l) (item_rows r) ∷ front c go ls rs else go (l ∷ ls) (r ∷ rs))
      step true s =
          record {
            heads = alike (item_rows l) (item_rows r) ∷ s.heads;
            all_alike = tt & s.all_alike;
            splits = ap (λ (ps : List Pair). alike (item_rows l) (item_rows r) ∷ ps) s.splits;
          }
      step false s = record { heads = []; all_alike = done; splits = refl }

  -- the row numbers behind `n` fields of both
  abbrev behind_front : (go : List Item → List Item → List Pair) (i j : ℕ) (ls rs : List Item) (n : ℕ) → List Entry
  behind_front go i j ls rs n = entries (i + length (items_rows (take n ls))) (j + length (items_rows (take n rs))) (go (drop n ls) (drop n rs))

  moved : (i i' j j' : ℕ) (ps : List Pair) → i ≡ i' → j ≡ j' → entries i j ps ≡ entries i' j' ps
  moved i i' j j' ps p q = ap₂ (λ (m n : ℕ). entries m n ps) p q

  front_entries : (go : List Item → List Item → List Pair) (i j : ℕ) (ls rs : List Item) → entries i j (front c go ls rs) ≡ behind_front go i j ls rs (alikes c ls rs)
  unfolding front alikes entries items_rows when◌then◌else◌
  front_entries go i j [] rs = moved i (i + 0) j (j + 0) (go [] rs) (omega arith) (omega arith)
  front_entries go i j (l ∷ ls) [] = moved i (i + 0) j (j + 0) (go (l ∷ ls) []) (omega arith) (omega arith)
  front_entries go i j (l ∷ ls) (r ∷ rs) = step (same c (item_rows l) (item_rows r)) (front_entries go (i + length (item_rows l)) (j + length (item_rows r)) ls rs)
    where
      step : (b : Bool) → entries (i + length (item_rows l)) (j + length (item_rows r)) (front c go ls rs) ≡ behind_front go (i + length (item_rows l)) (j + length (item_rows r)) ls rs (alikes c ls rs)
          → entries i j (when b then alike (item_rows l) (item_rows r) ∷ front c go ls rs else go (l ∷ ls) (r ∷ rs)) ≡ behind_front go i j (l ∷ ls) (r ∷ rs) (when b then suc (alikes c ls rs) else 0)
      step true rec =
          let x = items_rows (take (alikes c ls rs) ls) in
          let y = items_rows (take (alikes c ls rs) rs) in
          let p : i + length (item_rows l) + length x ≡ i + length (item_rows l ++ x) = omega (arith, length-append (item_rows l) x) in
          let q : j + length (item_rows r) + length y ≡ j + length (item_rows r ++ y) = omega (arith, length-append (item_rows r) y) in
          rec ∙ moved (i + length (item_rows l) + length x) (i + length (item_rows l ++ x)) (j + length (item_rows r) + length y) (j + length (item_rows r ++ y))
          (go (drop (alikes c ls rs) ls) (drop (alikes c ls rs) rs)) p q
      step false rec = moved i (i + 0) j (j + 0) (go (l ∷ ls) (r ∷ rs)) (omega arith) (omega arith)

  -- from the back: what is left of both
  back_entries : (i j : ℕ) (ls rs : List Item) (n : ℕ) → alikes c (reverse ls) (reverse rs) ≡ n
      → entries i j (mirrored (front c (mirrored rest)) ls rs) ≡ entries i j (rest (take (length ls - n) ls) (take (length rs - n) rs))
  unfolding mirrored
  back_entries i j ls rs n e =
      let s : Split (mirrored rest) (reverse ls) (reverse rs) n (front c (mirrored rest) (reverse ls) (reverse rs)) = rw e at (front_splits (mirrored rest) (reverse ls) (reverse rs)) in
      let low : n ≤ length ls = omega (arith, alikes_left (reverse ls) (reverse rs), length-reverse ls) in
      let low' : n ≤ length rs = omega (arith, alikes_right (reverse ls) (reverse rs), length-reverse rs) in
      let middle = rest (reverse (drop n (reverse ls))) (reverse (drop n (reverse rs))) in
      let whole : reverse (front c (mirrored rest) (reverse ls) (reverse rs)) ≡ middle ++ reverse s.heads =
      ap reverse s.splits ∙ reverse-append s.heads (reverse middle) ∙ ap (λ (ps : List Pair). ps ++ reverse s.heads) (reverse-reverse middle) in
      ap (entries i j) whole ∙ alike_behind i j middle (reverse s.heads) (all_turned s.heads [] s.all_alike done)
      ∙ ap₂ (λ (x y : List Item). entries i j (rest x y)) (without_last n ls low) (without_last n rs low')

  -- With `f` fields the same at the front and `g` of the others at the back, the list is that of the rest.
  pub middle : (i j : ℕ) (ls rs : List Item) (f g : ℕ) → alikes c ls rs ≡ f → alikes c (reverse (drop f ls)) (reverse (drop f rs)) ≡ g
      → entries i j (field_pairs c ls rs)
      ≡ entries (i + length (items_rows (take f ls))) (j + length (items_rows (take f rs)))
      (rest (take (length (drop f ls) - g) (drop f ls)) (take (length (drop f rs) - g) (drop f rs)))
  unfolding field_pairs
  middle i j ls rs f g p q =
      front_entries (mirrored (front c (mirrored rest))) i j ls rs ∙ ap (behind_front (mirrored (front c (mirrored rest))) i j ls rs) p
      ∙ back_entries _ _ (drop f ls) (drop f rs) g q
