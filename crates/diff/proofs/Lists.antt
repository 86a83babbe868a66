-- The list that the code writes, by rows, is the rules' list, by fields.
use mathlib.Core.Path.{◌≡◌, refl, sym, ap, ap₂, ◌∙◌}
use mathlib.Core.Bool.{Bool, true, false}
use mathlib.Core.Option.{some}
use mathlib.Core.List.{List, [], ◌∷◌, ◌++◌, map, append_assoc, append-nil, head-eq_of_cons-eq, tail-eq_of_cons-eq, cons≢nil}
use Prim.Native.Nat.{ℕ, zero, suc, ◌+◌, ◌-◌, ◌*◌, ◌/◌, ◌<◌, ◌≤◌}
use native.Mathlib.Omega.{arith}
use native.Mathlib.Nat.{add-zero}
use lib.Dec.{eqb}
use lib.ListN.{length, get_or, take, drop, length-append}
use lib.Seq.{get_or-drop, drop-drop, take_at, drop_at}
use borrow.Author.Tests.{lt-leb, le-leb, eq-eqb, ne_eqb}
use Rattle.kit.specs.Pick.{pick}
use Rattle.rules.specs.Tools.{when◌then◌else◌}
use Rattle.rules.specs.Rows.{value, bytes, Raw, raw, raw_at, Row, Open, Close, encode, decode_row, encode_row}
use Rattle.rules.specs.Tree.{Scope, scope, Item, plain, holds, head_of, head_rows, flatten, fields_rows, item_rows}
use Rattle.rules.specs.Answer.{rows_of, rows_bytes}
use Rattle.rules.specs.Laws.ToolLaws.{ok_at}
use Rattle.rules.specs.Laws.RowLaws.{decode_parts}
use Rattle.read_form.proofs.Laws.OutputLength.{rows_length}
use Rattle.comparing.specs.Compare.{Choice, same, Pair, alike, differs, opening, left_only, differing, items, only_left, only_right, rest, field_pairs, open_pair, form_pairs, Entry, entries, differences, kind_number, entry_bytes, list_bytes}
use Rattle.comparing.specs.Laws.FieldsFromRows.{items_rows, fields_items}
use Rattle.rows.proofs.Laws.{value_four}
use Rattle.parts.specs.PartsAt.{two, parts_in, parts_at}
use Rattle.matched.specs.Counted.{raw_of}
use Rattle.matched.specs.Alike.{field_end, middle_t}
use Rattle.matched.proofs.Rows.{same_row}
use Rattle.matched.proofs.Ends.{At, Stands, item_at, stands_next, item_long_lem, item_end}
use Rattle.matched.proofs.Agrees.{size, size_cons}
use Rattle.matched.proofs.Middle.{left_is}
use Rattle.diff.specs.Written.{entry_t, two_t, fields_t, left_entry, rows_held, right_entry, left_t, right_t, lone_t, code_t, pair_t}
use Rattle.diff.specs.Run as run
use Rattle.diff.specs.Run.{pair_bytes, rest_bytes, rest_of, both_bytes, list_t}
use Rattle.diff.proofs.Ways.{none_left, one_field}

-- ---- rows in bytes

value_one : (l : List ℕ) (a : ℕ) → value (take 1 (drop a l)) ≡ get_or l a 0
unfolding value
value_one l a = here (drop a l) ∙ get_or-drop a l 0 0 ∙ rw add-zero
  where
    here : (m : List ℕ) → value (take 1 m) ≡ get_or m 0 0
    here [] = refl
    here (b ∷ m) = omega arith

value_two : (l : List ℕ) (a : ℕ) → value (take 2 (drop a l)) ≡ two l a
unfolding value
value_two l a = here (drop a l) ∙ rw (get_or-drop a l 0 0, get_or-drop a l 1 0, add-zero)
  where
    here : (m : List ℕ) → value (take 2 m) ≡ two m 0
    here [] = refl
    here (b ∷ []) = omega arith
    here (b ∷ c ∷ m) = omega arith

raw_there : (l : List ℕ) (i : ℕ) → i < length l / 16 → raw_of (parts_at l i) ≡ raw_at (drop (16 * i) l)
unfolding parts_at parts_in pick raw_at
raw_there l i h =
    let a = 16 * i in
    rw (lt-leb _ _ h) (sym (rw (drop-drop 1 a l, drop-drop 2 a l, drop-drop 4 a l, drop-drop 8 a l, drop-drop 12 a l, value_one l a, value_one l (a + 1), value_two l (a + 2), value_four l (a + 4), value_four l (a + 8), value_four l (a + 12))))

pub at_rows : (top count : ℕ) (l : List ℕ) (i : ℕ) (rs : List Row) → map some rs ≡ rows_of top count (drop (16 * i) l) → length l / 16 ≡ i + count → At l i rs
unfolding rows_of decode_row
at_rows top zero l i [] e h = tt
at_rows top zero l i (r ∷ rs) e h = absurd (cons≢nil e)
at_rows top (suc count) l i [] e h = tt
at_rows top (suc count) l i (r ∷ rs) e h =
    let n : 16 * i + 16 ≡ 16 * (i + 1) = omega arith in
    let next : drop 16 (drop (16 * i) l) ≡ drop (16 * (i + 1)) l = drop-drop 16 (16 * i) l ∙ ap (λ (k : ℕ). drop k l) n in
    let first : encode r ≡ raw_at (drop (16 * i) l) = ok_at _ _ r (decode_parts top (raw_at (drop (16 * i) l))) (sym (head-eq_of_cons-eq e)) in (
      raw_there l i (omega arith) ∙ sym first,
      at_rows top count l (i + 1) rs (tail-eq_of_cons-eq e ∙ ap (rows_of top count) next) (omega arith),
    )

-- ---- the bytes of rows

-- they stand from row i on
pub record Held (r : List ℕ) (i : ℕ) (xs : List Row) : Type 0 where
  pub more : List ℕ
  pub holds : drop (16 * i) r ≡ rows_bytes xs ++ more

bytes_append : (xs ys : List Row) → rows_bytes (xs ++ ys) ≡ rows_bytes xs ++ rows_bytes ys
unfolding rows_bytes
bytes_append [] ys = refl
bytes_append (x ∷ xs) ys = rw (bytes_append xs ys) (sym (append_assoc (encode_row x) (rows_bytes xs) (rows_bytes ys)))

pub held_first : (r : List ℕ) (i : ℕ) (xs ys : List Row) → Held r i (xs ++ ys) → Held r i xs
held_first r i xs ys h =
    record { more = rows_bytes ys ++ h.more; holds = h.holds ∙ ap (λ (l : List ℕ). l ++ h.more) (bytes_append xs ys) ∙ append_assoc (rows_bytes xs) (rows_bytes ys) h.more }

pub held_second : (r : List ℕ) (i : ℕ) (xs ys : List Row) → Held r i (xs ++ ys) → Held r (i + length xs) ys
held_second r i xs ys h =
    let n : 16 * i + 16 * length xs ≡ 16 * (i + length xs) = omega arith in
    let k = rows_length xs in
    record {
      more = h.more;
      holds = ap (λ (a : ℕ). drop a r) (sym n) ∙ sym (drop-drop (16 * length xs) (16 * i) r) ∙ ap (drop (16 * length xs)) (h.holds ∙ ap (λ (l : List ℕ). l ++ h.more) (bytes_append xs ys) ∙ append_assoc (rows_bytes xs) (rows_bytes ys) h.more)
          ∙ drop_at (rows_bytes xs) (rows_bytes ys ++ h.more) (16 * length xs) k;
    }

held_bytes : (r : List ℕ) (i e : ℕ) (xs : List Row) → Held r i xs → e ≡ i + length xs → rows_held r i e ≡ rows_bytes xs
unfolding rows_held
held_bytes r i e xs h q =
    let n : 16 * e - 16 * i ≡ 16 * length xs = omega arith in
    rw (n, h.holds) (take_at (rows_bytes xs) h.more (16 * length xs) (rows_length xs))

-- ---- an entry

entry_is : (k i m j n : ℕ) (u v : List ℕ) → entry_t k i m j n ++ (u ++ v) ≡ (bytes 4 k ++ (bytes 4 i ++ (bytes 4 m ++ (bytes 4 j ++ (bytes 4 n ++ u))))) ++ v
unfolding entry_t two_t bytes
entry_is k i m j n u v = refl

-- where a field of a form ends
end_is : (l : List ℕ) (i : ℕ) (x : Item) (is : List Item) → Stands l i (x ∷ is) → field_end l i ≡ i + length (item_rows x)
unfolding field_end pick
end_is l i x is s =
    let n = s.count in
    let h : i < length l / 16 = omega arith in
    rw (lt-leb _ _ h) (item_end l i x is s)

left_list : (most : ℕ) (l : List ℕ) (i j to : ℕ) (xs more : List Item) → Stands l i (xs ++ more) → to ≡ i + size xs → length l / 16 ≤ i + most
    → fields_t (left_entry j) l to i most ≡ list_bytes (entries i j (map only_left xs))
unfolding list_bytes entries only_left left_entry entry_bytes kind_number rows_bytes
left_list most l i j to [] more s h n = none_left (left_entry j) l to i most (let z : size [] ≡ 0 = unfold size items_rows in refl in omega arith)
left_list zero l i j to (x ∷ xs) more s h n = let c = s.count in absurd (omega arith)
left_list (suc most) l i j to (x ∷ xs) more s h n =
    let e = i + length (item_rows x) in
    let p = item_long_lem x in
    let w = size_cons x xs in
    let up : i < to = omega arith in
    let far : i < e = omega arith in
    let long : e - i ≡ length (item_rows x) = omega arith in
    let zero_more : j + 0 ≡ j = omega arith in
    let rec : fields_t (left_entry j) l to e most ≡ list_bytes (entries e j (map only_left xs)) = left_list most l e j to xs more (stands_next l i x (xs ++ more) s) (omega arith) (omega arith) in
    one_field (left_entry j) l to i most e up (sym (end_is l i x (xs ++ more) s)) far
    ∙ ap (λ (t : List ℕ). left_entry j i e ++ t) rec
    ∙ rw (long, zero_more) (entry_is 2 i (length (item_rows x)) j 0 [] (list_bytes (entries e j (map only_left xs))))

right_list : (most : ℕ) (r : List ℕ) (i j to : ℕ) (ys more : List Item) → Stands r j (ys ++ more) → Held r j (items_rows (ys ++ more)) → to ≡ j + size ys → length r / 16 ≤ j + most
    → fields_t (right_entry r i) r to j most ≡ list_bytes (entries i j (map only_right ys))
unfolding list_bytes entries only_right items_rows right_entry entry_bytes kind_number
right_list most r i j to [] more s k h n = none_left (right_entry r i) r to j most (let z : size [] ≡ 0 = unfold size in refl in omega arith)
right_list zero r i j to (y ∷ ys) more s k h n = let c = s.count in absurd (omega arith)
right_list (suc most) r i j to (y ∷ ys) more s k h n =
    let e = j + length (item_rows y) in
    let p = item_long_lem y in
    let w = size_cons y ys in
    let up : j < to = omega arith in
    let far : j < e = omega arith in
    let long : e - j ≡ length (item_rows y) = omega arith in
    let zero_more : i + 0 ≡ i = omega arith in
    let rows : rows_held r j e ≡ rows_bytes (item_rows y) = held_bytes r j e (item_rows y) (held_first r j (item_rows y) (items_rows (ys ++ more)) k) refl in
    let rec : fields_t (right_entry r i) r to e most ≡ list_bytes (entries i e (map only_right ys)) =
    right_list most r i e to ys more (stands_next r j y (ys ++ more) s) (held_second r j (item_rows y) (items_rows (ys ++ more)) k) (omega arith) (omega arith) in
    one_field (right_entry r i) r to j most e up (sym (end_is r j y (ys ++ more) s)) far
    ∙ ap (λ (t : List ℕ). right_entry r i j e ++ t) rec
    ∙ rw (long, zero_more, rows) (append_assoc (entry_t 3 i 0 j (length (item_rows y))) (rows_bytes (item_rows y)) (list_bytes (entries i e (map only_right ys))) ∙ entry_is 3 i 0 j (length (item_rows y)) (rows_bytes (item_rows y)) (list_bytes (entries i e (map only_right ys))))

-- ---- what is left

left_then : (i j : ℕ) (xs : List Item) (ps : List Pair) → list_bytes (entries i j (map only_left xs ++ ps)) ≡ list_bytes (entries i j (map only_left xs)) ++ list_bytes (entries (i + size xs) j ps)
unfolding list_bytes entries only_left
left_then i j [] ps = let z : i + size [] ≡ i = unfold size items_rows in omega arith in rw z
left_then i j (x ∷ xs) ps =
    let zero_more : j + 0 ≡ j = omega arith in
    let n : i + length (item_rows x) + size xs ≡ i + size (x ∷ xs) = omega (arith, size_cons x xs) in
    let e : Entry = record { kind = left_only; left = i; count = length (item_rows x); right = j; rows = [] } in
    rw (zero_more, left_then (i + length (item_rows x)) j xs ps, n) (sym (append_assoc (entry_bytes e) (list_bytes (entries (i + length (item_rows x)) j (map only_left xs))) (list_bytes (entries (i + size (x ∷ xs)) j ps))))

is_one : List Item → Bool
is_one [] = false
is_one (x ∷ []) = true
is_one (x ∷ y ∷ xs) = false

lone_is : (l : List ℕ) (i to : ℕ) (xs more : List Item) → Stands l i (xs ++ more) → to ≡ i + size xs → lone_t l i to ≡ is_one xs
unfolding lone_t is_one pick
lone_is l i to [] more s h = let z : size [] ≡ 0 = unfold size items_rows in refl in let g : to ≤ i = omega arith in rw (le-leb _ _ g)
lone_is l i to (x ∷ []) more s h =
    let z : size [] ≡ 0 = unfold size items_rows in refl in
    let w = size_cons x [] in
    let p = item_long_lem x in
    let g : i < to = omega arith in
    let q : field_end l i ≡ to = end_is l i x more s ∙ omega arith in
    rw (lt-leb _ _ g, eq-eqb _ _ q)
lone_is l i to (x ∷ y ∷ xs) more s h =
    let w = size_cons x (y ∷ xs) in
    let v = size_cons y xs in
    let p = item_long_lem y in
    let g : i < to = omega (arith, item_long_lem x) in
    let q : field_end l i ≡ to → ⊥ = λ b. let d = end_is l i x (y ∷ (xs ++ more)) s in omega arith in
    rw (lt-leb _ _ g, ne_eqb _ _ q)

b_of : Raw → ℕ
b_of (raw code b e x y z) = b

module _ (l r : List ℕ) (f : ℕ) where
  -- field by field
  apart_list : (end other : ℕ) (xs ys more more' : List Item) → Stands l f (xs ++ more) → Stands r f (ys ++ more') → Held r f (items_rows (ys ++ more')) → end ≡ f + size xs → other ≡ f + size ys
      → left_t l f end f ++ right_t r end other f ≡ list_bytes (entries f f (map only_left xs ++ map only_right ys))
  apart_list end other xs ys more more' s t k p q =
      ap₂ (λ (a b : List ℕ). a ++ b) (left_list (length l / 16) l f f end xs more s p (omega arith)) (right_list (length r / 16) r end f other ys more' t k q (omega arith) ∙ ap (λ (n : ℕ). list_bytes (entries n f (map only_right ys))) p)
      ∙ sym (left_then f f xs (map only_right ys))

  code_there : (m : List ℕ) (x : Item) (is : List Item) → Stands m f (x ∷ is) → code_t m f ≡ (head_of x).code
  unfolding head_of flatten head_rows encode b_of
  code_there m (plain h) is s = ap b_of (item_at m f (plain h) is s).0
  code_there m (holds h t) is s = ap b_of (item_at m f (holds h t) is s).0

  pair_list : (end other : ℕ) (x y : Item) (more more' : List Item) → Stands r f (y ∷ more') → Held r f (items_rows (y ∷ more')) → end ≡ f + size (x ∷ []) → other ≡ f + size (y ∷ [])
      → pair_bytes r f end other ≡ list_bytes (entries f f (differs differing (item_rows x) (item_rows y) ∷ []))
  unfolding pair_bytes list_bytes entries entry_bytes kind_number items_rows
  pair_list end other x y more more' t k p q =
      let z : size [] ≡ 0 = unfold size in refl in
      let m : end - f ≡ length (item_rows x) = omega (arith, size_cons x []) in
      let n : other - f ≡ length (item_rows y) = omega (arith, size_cons y []) in
      let e : other ≡ f + length (item_rows y) = omega (arith, size_cons y []) in
      rw (m, n, held_bytes r f other (item_rows y) (held_first r f (item_rows y) (items_rows more') k) e) (ap (λ (w : List ℕ). entry_t 4 f (length (item_rows x)) f (length (item_rows y)) ++ w) (sym (append-nil (rows_bytes (item_rows y)))) ∙ entry_is 4 f (length (item_rows x)) f (length (item_rows y)) (rows_bytes (item_rows y)) [])

  rest_list : (end other : ℕ) (xs ys more more' : List Item) → Stands l f (xs ++ more) → Stands r f (ys ++ more') → Held r f (items_rows (ys ++ more')) → end ≡ f + size xs → other ≡ f + size ys
      → rest_bytes l r f end other ≡ list_bytes (entries f f (rest xs ys))
  unfolding rest_bytes rest pair_t is_one pick when◌then◌else◌
  rest_list end other [] ys more more' s t k p q = rw (lone_is l f end [] more s p) (apart_list end other [] ys more more' s t k p q)
  rest_list end other (x ∷ []) [] more more' s t k p q = rw (lone_is l f end (x ∷ []) more s p, lone_is r f other [] more' t q) (apart_list end other (x ∷ []) [] more more' s t k p q)
  rest_list end other (x ∷ []) (y ∷ []) more more' s t k p q =
      rw (lone_is l f end (x ∷ []) more s p, lone_is r f other (y ∷ []) more' t q, code_there l x more s, code_there r y more' t) (go (eqb (head_of x).code (head_of y).code))
    where
      go : (b : Bool) → pick b (pair_bytes r f end other) (left_t l f end f ++ right_t r end other f)
          ≡ list_bytes (entries f f (when b then differs differing (item_rows x) (item_rows y) ∷ [] else only_left x ∷ only_right y ∷ []))
      go true = pair_list end other x y more more' t k p q
      go false = apart_list end other (x ∷ []) (y ∷ []) more more' s t k p q
  rest_list end other (x ∷ []) (y ∷ y' ∷ ys) more more' s t k p q = rw (lone_is l f end (x ∷ []) more s p, lone_is r f other (y ∷ y' ∷ ys) more' t q) (apart_list end other (x ∷ []) (y ∷ y' ∷ ys) more more' s t k p q)
  rest_list end other (x ∷ x' ∷ xs) ys more more' s t k p q = rw (lone_is l f end (x ∷ x' ∷ xs) more s p) (apart_list end other (x ∷ x' ∷ xs) ys more more' s t k p q)

-- ---- the whole list

alike_behind : (i j : ℕ) (ps : List Pair) (x y : List Row) → entries i j (ps ++ (alike x y ∷ [])) ≡ entries i j ps
unfolding entries
alike_behind i j [] x y = refl
alike_behind i j (alike a b ∷ ps) x y = alike_behind (i + length a) (j + length b) ps x y
alike_behind i j (differs k a b ∷ ps) x y =
    ap (λ (es : List Entry). record { kind = k; left = i; count = length a; right = j; rows = b } ∷ es) (alike_behind (i + length a) (j + length b) ps x y)

items_append : (is js : List Item) → items_rows (is ++ js) ≡ items_rows is ++ items_rows js
unfolding items_rows
items_append [] js = refl
items_append (i ∷ is) js = ap (λ (l : List Row). item_rows i ++ l) (items_append is js) ∙ sym (append_assoc (item_rows i) (items_rows is) (items_rows js))

module _ (c : Choice) (l r : List ℕ) where
  left_list_is : (ls rs : List Item) → Stands l 1 ls → Stands r 1 rs → Held r 1 (items_rows rs) → rest_of l r (middle_t c l r) ≡ list_bytes (entries 1 1 (field_pairs c ls rs))
  unfolding rest_of
  left_list_is ls rs s t h =
      let m = left_is c l r ls rs s t in
      let all : Held r 1 (items_rows m.before_right ++ items_rows (m.rights ++ m.more_right)) = rw (← items_append m.before_right (m.rights ++ m.more_right), m.all_right) h in
      let from : 1 + length (items_rows m.before_right) ≡ (middle_t c l r).from = unfold size in sym m.starts in
      let there : Held r (middle_t c l r).from (items_rows (m.rights ++ m.more_right)) = rw from at (held_second r 1 (items_rows m.before_right) (items_rows (m.rights ++ m.more_right)) all) in
      rest_list l r (middle_t c l r).from (middle_t c l r).left (middle_t c l r).right m.lefts m.rights m.more_left m.more_right m.stands_left m.stands_right there m.left_end m.right_end
      ∙ ap list_bytes (sym m.lists)

  -- The list of two forms whose rows these are.
  pub whole_list : (a b : Scope) → At l 0 (flatten a) → At r 0 (flatten b) → Held r 0 (flatten b) → length l / 16 ≡ length (flatten a) → length r / 16 ≡ length (flatten b)
      → list_t c l r ≡ list_bytes (differences c a b)
  unfolding flatten differences form_pairs open_pair list_t both_bytes run.opening entries list_bytes entry_bytes kind_number when◌then◌else◌ pick
  whole_list (scope k n fs) (scope k' n' fs') u v h p q =
      let x = Open k n in
      let y = Open k' n' in
      let s : Stands l 1 (items fs) = record { rows = rw (fields_items fs) u.1; count = rw (fields_items fs) (omega (arith, p, length-append (fields_rows fs) (Close ∷ []))) } in
      let t : Stands r 1 (items fs') = record { rows = rw (fields_items fs') v.1; count = rw (fields_items fs') (omega (arith, q, length-append (fields_rows fs') (Close ∷ []))) } in
      let behind : Held r 1 (items_rows (items fs')) = rw (fields_items fs') (held_first r 1 (fields_rows fs') (Close ∷ []) (held_second r 0 (y ∷ []) (fields_rows fs' ++ (Close ∷ [])) h)) in
      let ps = field_pairs c (items fs) (items fs') in
      let others : rest_of l r (middle_t c l r) ≡ list_bytes (entries 1 1 (ps ++ (alike (Close ∷ []) (Close ∷ []) ∷ []))) =
      left_list_is (items fs) (items fs') s t behind ∙ ap list_bytes (sym (alike_behind 1 1 ps (Close ∷ []) (Close ∷ []))) in
      let opened : rows_held r 0 1 ≡ rows_bytes (y ∷ []) = held_bytes r 0 1 (y ∷ []) (held_first r 0 (y ∷ []) (fields_rows fs' ++ (Close ∷ [])) h) refl in
      rw (same_row c (parts_at l 0) (parts_at r 0) x y u.0 v.0) (go (same c (x ∷ []) (y ∷ [])) x y (ps ++ (alike (Close ∷ []) (Close ∷ []) ∷ [])) others opened)
    where
      go : (b : Bool) (x y : Row) (ps : List Pair) → rest_of l r (middle_t c l r) ≡ list_bytes (entries 1 1 ps) → rows_held r 0 1 ≡ rows_bytes (y ∷ [])
          → pick b (rest_of l r (middle_t c l r)) ((entry_t 1 0 1 0 1 ++ rows_held r 0 1) ++ rest_of l r (middle_t c l r))
          ≡ list_bytes (entries 0 0 ((when b then alike (x ∷ []) (y ∷ []) else differs opening (x ∷ []) (y ∷ [])) ∷ ps))
      go true x y ps o e = o
      go false x y ps o e =
          rw (e, o) (append_assoc (entry_t 1 0 1 0 1) (rows_bytes (y ∷ [])) (list_bytes (entries 1 1 ps)) ∙ entry_is 1 0 1 0 1 (rows_bytes (y ∷ [])) (list_bytes (entries 1 1 ps)))
