-- What an entry of each kind is; and what is listed as differing does differ.
use Rattle.std.specs.Prelude.{◌≡◌, true, false, ℕ, ◌+◌, eqb, drop}
use Rattle.std.proofs.Math.Path.{refl, ap, subst}
use Rattle.std.proofs.Common.{sym, ◌∙◌, arith, drop_at}
use mathlib.Core.List.{List, [], ◌∷◌, ◌++◌, map, reverse, reverse_aux, reverse-reverse, append_assoc}
use Rattle.std.proofs.Math.ListN.{length, take, length-append}
use Rattle.std.proofs.Math.Seq.{take-append_seam}
use Rattle.rules.specs.Rows.{Row, Open, Close}
use Rattle.rules.specs.Tree.{Scope, scope, Item, head_of, flatten, item_rows}
use Rattle.comparing.specs.Compare.{Choice, blur, same, Kind, opening, left_only, right_only, differing, Pair, alike, differs, items, only_left, only_right, rest, front, mirrored, field_pairs, open_pair, form_pairs, Entry, entries, differences}
use Rattle.rules.specs.Laws.ToolLaws.{if_ok_lem, eqb-true, All, done, ◌&◌, all_append}
use Rattle.comparing.specs.Laws.SameRows.{equal_same}
use Rattle.comparing.proofs.Laws.Sides.{lefts, form_sides}

-- a field of the left and a field of the right of one code, whose rows are not equal as they count
pub record TwoFields (c : Choice) (l r : List Row) : Type 0 where
  pub before : Item
  pub after : Item
  pub left_is : item_rows before ≡ l
  pub right_is : item_rows after ≡ r
  pub codes : (head_of before).code ≡ (head_of after).code
  pub differ : ¬ (map (blur c) l ≡ map (blur c) r)

-- what a kind says of the left's rows and of the right's
abbrev pub Says : Choice → Kind → (l r : List Row) → Type 0
Says c opening l r = (length l ≡ 1) × (length r ≡ 1) × ¬ (map (blur c) l ≡ map (blur c) r)
Says c left_only l r = ((i : Item) × (item_rows i ≡ l)) × (r ≡ [])
Says c right_only l r = (l ≡ []) × ((i : Item) × (item_rows i ≡ r))
Says c differing l r = TwoFields c l r

abbrev Told : Choice → Pair → Type 0
Told c (alike l r) = Unit {0}
Told c (differs k l r) = Says c k l r

pub all_turned : {A : Type 0} {P : A → Type 0} (xs ys : List A) → All P xs → All P ys → All P (reverse_aux xs ys)
all_turned [] ys a b = b
all_turned (x ∷ xs) ys (h & a) b = all_turned xs (x ∷ ys) a (h & b)

module _ (c : Choice) where
  unequal : (l r : List Row) → same c l r ≡ false → ¬ (map (blur c) l ≡ map (blur c) r)
  unequal l r n e = let z : true ≡ false = sym (equal_same c l r e) ∙ n in let w : ◌≡◌ {A = ℕ} 0 1 = cc in omega arith

  -- the first of both are not the same
  abbrev Unlike : (ls rs : List Item) → Type 0
  Unlike [] rs = Unit {0}
  Unlike (l ∷ ls) [] = Unit {0}
  Unlike (l ∷ ls) (r ∷ rs) = same c (item_rows l) (item_rows r) ≡ false

  front_told : (go : List Item → List Item → List Pair) → ((ls rs : List Item) → Unlike ls rs → All (Told c) (go ls rs))
      → (ls rs : List Item) → All (Told c) (front c go ls rs)
  unfolding front
  front_told go h [] rs = h [] rs tt
  front_told go h (l ∷ ls) [] = h (l ∷ ls) [] tt
  front_told go h (l ∷ ls) (r ∷ rs) =
      if_ok_lem (All (Told c)) (same c (item_rows l) (item_rows r)) _ _ (λ e. tt & front_told go h ls rs) (λ n. h (l ∷ ls) (r ∷ rs) n)

  right_told : (r : Item) → Told c (only_right r)
  unfolding only_right
  right_told r = (refl, (r, refl))

  left_told : (l : Item) → Told c (only_left l)
  unfolding only_left
  left_told l = ((l, refl), refl)

  rights_told : (rs : List Item) → All (Told c) (map only_right rs)
  rights_told [] = done
  rights_told (r ∷ rs) = right_told r & rights_told rs

  lefts_told : (ls : List Item) → All (Told c) (map only_left ls)
  lefts_told [] = done
  lefts_told (l ∷ ls) = left_told l & lefts_told ls

  -- where only one field is left of each, they are not the same
  abbrev Lone : (ls rs : List Item) → Type 0
  Lone ls rs = (l r : Item) → ls ≡ l ∷ [] → rs ≡ r ∷ [] → same c (item_rows l) (item_rows r) ≡ false

  rest_told : (ls rs : List Item) → Lone ls rs → All (Told c) (rest ls rs)
  unfolding rest
  rest_told [] rs h = rights_told rs
  rest_told (l ∷ []) [] h = left_told l & done
  rest_told (l ∷ []) (r ∷ []) h =
      if_ok_lem (All (Told c)) (eqb (head_of l).code (head_of r).code) _ _
      (λ e.
      let two : TwoFields c (item_rows l) (item_rows r) =
      record { before = l; after = r; left_is = refl; right_is = refl; codes = eqb-true _ _ e; differ = unequal _ _ (h l r refl refl) } in
      two & done)
      (λ e. left_told l & right_told r & done)
  rest_told (l ∷ []) (r ∷ r' ∷ rs) h = left_told l & rights_told (r ∷ r' ∷ rs)
  rest_told (l ∷ l' ∷ ls) rs h = all_append (map only_left (l ∷ l' ∷ ls)) (map only_right rs) (lefts_told (l ∷ l' ∷ ls)) (rights_told rs)

  unlike_lone : (ls rs : List Item) → Unlike ls rs → Lone (reverse ls) (reverse rs)
  unlike_lone ls rs u l r p q =
      let ls-is : ls ≡ l ∷ [] = sym (reverse-reverse ls) ∙ ap reverse p in
      let rs-is : rs ≡ r ∷ [] = sym (reverse-reverse rs) ∙ ap reverse q in
      rw (ls-is, rs-is) at u

  fields_told : (ls rs : List Item) → All (Told c) (field_pairs c ls rs)
  unfolding field_pairs mirrored
  fields_told ls rs =
      front_told _ (λ ls rs u. all_turned _ [] (front_told _ (λ ls rs u. all_turned _ [] (rest_told (reverse ls) (reverse rs) (unlike_lone ls rs u)) done) (reverse ls) (reverse rs)) done) ls rs

  open_told : (x y : Row) → Told c (open_pair c (x ∷ []) (y ∷ []))
  unfolding open_pair
  open_told x y = if_ok_lem (Told c) (same c (x ∷ []) (y ∷ [])) _ _ (λ e. tt) (λ n. (refl, refl, unequal _ _ n))

  form_told : (a b : Scope) → All (Told c) (form_pairs c a b)
  unfolding form_pairs
  form_told (scope kind name fs) (scope kind' name' fs') =
      open_told (Open kind name) (Open kind' name')
      & all_append (field_pairs c (items fs) (items fs')) (alike (Close ∷ []) (Close ∷ []) ∷ []) (fields_told (items fs) (items fs')) (tt & done)

  -- what an entry says of the left's rows that it counts and of the right's that it has
  abbrev pub Means : List Row → Entry → Type 0
  Means left e = Says c e.kind (take e.count (drop e.left left)) e.rows

  entries_told : (before : List Row) (i j : ℕ) (ps : List Pair) → length before ≡ i → All (Told c) ps → All (Means (before ++ lefts ps)) (entries i j ps)
  unfolding entries lefts
  entries_told before i j [] p done = done
  entries_told before i j (alike l r ∷ ps) p (h & a) =
      rw append_assoc at (entries_told (before ++ l) (i + length l) (j + length r) ps (omega (arith, length-append before l)) a)
  entries_told before i j (differs k l r ∷ ps) p (h & a) =
      let rows : take (length l) (drop i (before ++ (l ++ lefts ps))) ≡ l = ap (take (length l)) (drop_at before (l ++ lefts ps) i p) ∙ take-append_seam l (lefts ps) in
      subst (λ (x : List Row). Says c k x r) (sym rows) h
      & (rw append_assoc at (entries_told (before ++ l) (i + length l) (j + length r) ps (omega (arith, length-append before l)) a))

  -- Of every entry: its kind says what stands there, and what is listed as differing differs.
  pub kinds_mean : (a b : Scope) → All (Means (flatten a)) (differences c a b)
  unfolding differences
  kinds_mean a b = rw (form_sides c a b).all_left at (entries_told [] 0 0 (form_pairs c a b) refl (form_told a b))
