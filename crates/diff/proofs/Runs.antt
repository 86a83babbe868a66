-- The list written in its parts, and the run.
use Rattle.std.specs.Prelude.{Result, Ok, ℕ}
use mathlib.Core.Path.{◌≡◌, refl, sym, ap, ◌∙◌}
use mathlib.Core.Bool.{Bool, true, false}
use mathlib.Core.List.{List, ◌++◌}
use Prim.Native.Nat.{ℕ, zero, suc, ◌+◌, ◌-◌, ◌*◌, ◌/◌, ◌<◌, ◌≤◌}
use native.Mathlib.Omega.{arith}
use lib.Dec.{eqb, leb}
use lib.ListN.{length, take, drop, length-append, length-drop}
use lib.Seq.{sets, length-sets, take_all}
use borrow.Author.Tests.{lt-ltb, le-ltb, lt-leb, leb-false, eqb-true}
use Rattle.kit.specs.Pick.{pick}
use Rattle.kit.specs.Out.{◌&◌}
use Rattle.kit.proofs.Laws.{sets_append}
use Rattle.rules.specs.Laws.ToolLaws.{false_not}
use Rattle.comparing.specs.Compare.{Choice}
use Rattle.parts.specs.PartsAt.{parts_at}
use Rattle.matched.specs.Counted.{same_t}
use Rattle.matched.specs.Alike.{field_end, middle_t}
use Rattle.matched.specs.declared.fields.Rest.{Rest}
use Rattle.diff.specs.Written.{entry_size, size_t, entry_t, left_entry, left_t, rows_held, right_entry, right_t, lone_t, code_t, pair_t}
use Rattle.diff.specs.Run.{opening, pair_bytes, rest_bytes, rest_of, both_bytes, list_t, refusing, list_rows_t}
use Rattle.diff.proofs.Ways.{length_entry, length_held, length_right, end_within, fields_long_lem}
use Rattle.refusal.specs.declared.Refusal.{Refusal}

-- ---- an entry and its rows

pub carried_put : (l l₁ l₂ w : List ℕ) (k i m j n at : ℕ) → l₁ ≡ sets l at (entry_t k i m j n) → l₂ ≡ sets l₁ (at + 20) w → l₂ ≡ sets l at (entry_t k i m j n ++ w)
carried_put l l₁ l₂ w k i m j n at p q = q ∙ rw p (sym (sets_append l at (entry_t k i m j n) w ∙ rw (length_entry k i m j n)))

pub pair_put : (r l l₁ l₂ : List ℕ) (from end other at : ℕ) → l₁ ≡ sets l at (entry_t 4 from (end - from) from (other - from)) → l₂ ≡ sets l₁ (at + 20) (take (16 * other - 16 * from) (drop (16 * from) r)) → l₂ ≡ sets l at (pair_bytes r from end other)
unfolding pair_bytes rows_held
pair_put r l l₁ l₂ from end other at p q = carried_put l l₁ l₂ (take (16 * other - 16 * from) (drop (16 * from) r)) 4 from (end - from) from (other - from) at p q

pub opening_put : (r l l₁ l₂ : List ℕ) → l₁ ≡ sets l 0 (entry_t 1 0 1 0 1) → l₂ ≡ sets l₁ 20 (take 16 r) → l₂ ≡ sets l 0 (opening r)
unfolding opening rows_held
opening_put r l l₁ l₂ p q = carried_put l l₁ l₂ (take 16 r) 1 0 1 0 1 0 p q

-- ---- a pair

both_true : (b t : Bool) → pick b t false ≡ true → (b ≡ true) × (t ≡ true)
unfolding pick
both_true true t e = (refl, e)
both_true false t e = false_not e

lone_is : (l : List ℕ) (from to : ℕ) → lone_t l from to ≡ true → (from < to) × (field_end l from ≡ to)
unfolding lone_t pick
lone_is l from to = go (leb to from) refl
  where
    go : (b : Bool) → leb to from ≡ b → pick b false (eqb (field_end l from) to) ≡ true → (from < to) × (field_end l from ≡ to)
    go true e h = false_not h
    go false e h = (leb-false to from e, eqb-true (field_end l from) to h)

module _ (l r : List ℕ) (from end other : ℕ) (p : pair_t l r from end other ≡ true) where
  parts_are : (lone_t l from end ≡ true) × (lone_t r from other ≡ true)
  unfolding pair_t
  parts_are =
      let w = both_true (lone_t l from end) (pick (lone_t r from other) (eqb (code_t l from) (code_t r from)) false) p in
      (w.0, (both_true (lone_t r from other) (eqb (code_t l from) (code_t r from)) w.1).0)

  low_left : from ≤ end
  low_left = let w = (lone_is l from end parts_are.0).0 in omega arith

  less_right : from < other
  less_right = (lone_is r from other parts_are.1).0

  end_right : field_end r from ≡ other
  end_right = (lone_is r from other parts_are.1).1

  within_right : other ≤ length r / 16
  within_right = rw end_right at (end_within r from (rw end_right less_right))

  pair_length : length (pair_bytes r from end other) ≡ 20 + (16 * other - 16 * from)
  unfolding pair_bytes
  pair_length =
      let low : from ≤ other = let w = less_right in omega arith in
      omega (arith, length-append (entry_t 4 from (end - from) from (other - from)) (rows_held r from other), length_entry 4 from (end - from) from (other - from), length_held r from other low within_right)

  rest_pair : rest_bytes l r from end other ≡ pair_bytes r from end other
  unfolding rest_bytes pick
  rest_pair = rw p

  -- one field takes as many
  pair_size : size_t r true other from (length r / 16) ≡ 20 + (16 * other - 16 * from)
  unfolding size_t pick
  pair_size = go (length r / 16) (let w = within_right in let v = less_right in omega arith)
    where
      none_more : (most : ℕ) → size_t r true other other most ≡ 0
      none_more zero = refl
      none_more (suc m) = let h : other ≤ other = omega arith in rw (le-ltb _ _ h)

      go : (most : ℕ) → 1 ≤ most → size_t r true other from most ≡ 20 + (16 * other - 16 * from)
      go zero h = absurd (omega arith)
      go (suc m) h = rw (lt-ltb _ _ less_right, end_right, lt-leb _ _ less_right, none_more m) (omega arith)

-- `b` is what `is_pair` answers
module _ (l r : List ℕ) (from end other : ℕ) (b : Bool) (e : b ≡ pair_t l r from end other) where
  module _ (h : b ≡ true) where
    is_pair_lem : pair_t l r from end other ≡ true
    is_pair_lem = sym e ∙ h

    pub pair_left_low : from ≤ end
    pair_left_low = low_left l r from end other is_pair_lem

    pub pair_right_low : from ≤ other
    pair_right_low = let w = less_right l r from end other is_pair_lem in omega arith

    pub pair_within : other ≤ length r / 16
    pair_within = within_right l r from end other is_pair_lem

    pub pair_room : (at n : ℕ) → at + length (rest_bytes l r from end other) ≤ n → at + 20 + (16 * other - 16 * from) ≤ n
    pair_room at n w = omega (arith, ap length (rest_pair l r from end other is_pair_lem), pair_length l r from end other is_pair_lem)

    pub pair_done : (s s' : List ℕ) (at : ℕ) → s' ≡ sets s at (pair_bytes r from end other) → s' ≡ sets s at (rest_bytes l r from end other)
    pair_done s s' at q = rw (rest_pair l r from end other is_pair_lem) q

    pub pair_sized : (n : ℕ) → n ≡ size_t r true other from (length r / 16) → n ≡ length (rest_bytes l r from end other)
    pair_sized n q = q ∙ pair_size l r from end other is_pair_lem ∙ sym (pair_length l r from end other is_pair_lem) ∙ sym (ap length (rest_pair l r from end other is_pair_lem))

  module _ (h : b ≡ false) where
    rest_apart : rest_bytes l r from end other ≡ left_t l from end from ++ right_t r end other from
    unfolding rest_bytes pick
    rest_apart = let t : pair_t l r from end other ≡ false = sym e ∙ h in rw t

    apart_length : length (rest_bytes l r from end other) ≡ length (left_t l from end from) + length (right_t r end other from)
    apart_length = ap length rest_apart ∙ length-append (left_t l from end from) (right_t r end other from)

    pub left_fits : (at n : ℕ) → at + length (rest_bytes l r from end other) ≤ n → at + length (left_t l from end from) ≤ n
    left_fits at n w = omega (arith, apart_length)

    pub right_fits : (at at' : ℕ) (s s' : List ℕ) → at + length (rest_bytes l r from end other) ≤ length s → s' ≡ sets s at (left_t l from end from) → at' ≡ at + length (left_t l from end from) → at' + length (right_t r end other from) ≤ length s'
    right_fits at at' s s' w q u = omega (arith, apart_length, ap length q, length-sets s at (left_t l from end from))

    pub apart_done : (s s' s'' : List ℕ) (at at' : ℕ) → s' ≡ sets s at (left_t l from end from) → at' ≡ at + length (left_t l from end from) → s'' ≡ sets s' at' (right_t r end other from) → s'' ≡ sets s at (rest_bytes l r from end other)
    apart_done s s' s'' at at' q u v = v ∙ rw (q, u) (sym (sets_append s at (left_t l from end from) (right_t r end other from))) ∙ ap (sets s at) (sym rest_apart)

    pub apart_sized : (m n : ℕ) → m ≡ size_t l false end from (length l / 16) → n ≡ size_t r true other from (length r / 16) → m + n ≡ length (rest_bytes l r from end other)
    unfolding left_entry pick
    apart_sized m n q u =
        let left : length (left_t l from end from) ≡ size_t l false end from (length l / 16) = fields_long_lem (left_entry from) l false end left_long (length l / 16) from in
        let right : length (right_t r end other from) ≡ size_t r true other from (length r / 16) = fields_long_lem (right_entry r end) r true other right_long (length r / 16) from in
        omega (arith, apart_length)
      where
        left_long : (i e : ℕ) → i < e → e ≤ length l / 16 → length (left_entry from i e) ≡ entry_size (e - i) false
        left_long i e k w = omega (arith, length_entry 2 i (e - i) from 0)

        right_long : (i e : ℕ) → i < e → e ≤ length r / 16 → length (right_entry r end i e) ≡ entry_size (e - i) true
        right_long i e k w = length_right r end i e (omega arith) w ∙ omega arith

-- ---- the list

module _ (l r : List ℕ) (same : Bool) (m : Rest) where
  opening_long : 16 ≤ length r → length (opening r) ≡ 36
  unfolding opening
  opening_long h = omega (arith, length-append (entry_t 1 0 1 0 1) (rows_held r 0 1), length_entry 1 0 1 0 1, length_held r 0 1 (omega arith) (omega arith))

  both_same : same ≡ true → both_bytes l r same m ≡ rest_of l r m
  unfolding both_bytes pick
  both_same h = rw h

  both_other : same ≡ false → both_bytes l r same m ≡ opening r ++ rest_of l r m
  unfolding both_bytes pick
  both_other h = rw h

  other_long : same ≡ false → 16 ≤ length r → length (both_bytes l r same m) ≡ 36 + length (rest_of l r m)
  other_long h k = omega (arith, ap length (both_other h), length-append (opening r) (rest_of l r m), opening_long k)

  pub same_room : (n : ℕ) → same ≡ true → length (both_bytes l r same m) ≤ n → 0 + length (rest_of l r m) ≤ n
  same_room n h w = omega (arith, ap length (both_same h))

  pub same_done : (s s' : List ℕ) → same ≡ true → s' ≡ sets s 0 (rest_of l r m) → s' ≡ sets s 0 (both_bytes l r same m)
  same_done s s' h q = rw (both_same h) q

  pub opening_room : (n : ℕ) → same ≡ false → 16 ≤ length r → length (both_bytes l r same m) ≤ n → 36 ≤ n
  opening_room n h k w = omega (arith, other_long h k)

  pub other_room : (s s' : List ℕ) → same ≡ false → 16 ≤ length r → length (both_bytes l r same m) ≤ length s → s' ≡ sets s 0 (opening r) → 36 + length (rest_of l r m) ≤ length s'
  other_room s s' h k w q = omega (arith, other_long h k, ap length q, length-sets s 0 (opening r))

  pub other_done : (s s' s'' : List ℕ) → same ≡ false → 16 ≤ length r → s' ≡ sets s 0 (opening r) → s'' ≡ sets s' 36 (rest_of l r m) → s'' ≡ sets s 0 (both_bytes l r same m)
  other_done s s' s'' h k q v =
      let at : 0 + length (opening r) ≡ 36 = omega (arith, opening_long k) in
      v ∙ rw q (sym (sets_append s 0 (opening r) (rest_of l r m) ∙ rw at)) ∙ ap (sets s 0) (sym (both_other h))

  pub both_long : (o n : ℕ) → 16 ≤ length r → o ≡ pick same 0 36 → n ≡ length (rest_bytes l r m.from m.left m.right) → o + n ≡ length (both_bytes l r same m)
  unfolding rest_of pick
  both_long o n k p q = go same refl
    where
      is_rest : length (rest_bytes l r m.from m.left m.right) ≡ length (rest_of l r m)
      is_rest = refl

      go : (b : Bool) → same ≡ b → o + n ≡ length (both_bytes l r same m)
      go true h = let w : o ≡ 0 = p ∙ rw h in omega (arith, ap length (both_same h))
      go false h = let w : o ≡ 36 = p ∙ rw h in omega (arith, other_long h k)

module _ (c : Choice) (l r : List ℕ) (same : Bool) (m : Rest) (p : same ≡ same_t c (parts_at l 0) (parts_at r 0)) (q : m ≡ middle_t c l r) where
  both_is : both_bytes l r same m ≡ list_t c l r
  unfolding list_t
  both_is = rw (p, q)

  module _ (o n : ℕ) (k : 16 ≤ length r) (po : o ≡ pick same 0 36) (pn : n ≡ length (rest_bytes l r m.from m.left m.right)) where
    long : o + n ≡ length (list_t c l r)
    long = both_long l r same m o n k po pn ∙ ap length both_is

    pub rows_short : (list : List ℕ) (a : Result ℕ Refusal) → length list < o + n → a ≡ refusing 3 0 → a & list ≡ list_rows_t c l r list
    unfolding list_rows_t pick
    rows_short list a h e = let w : length list < length (list_t c l r) = omega (arith, long) in rw (lt-ltb _ _ w, e)

    pub rows_room : (list : List ℕ) → o + n ≤ length list → length (both_bytes l r same m) ≤ length list
    rows_room list h = omega (arith, long, ap length both_is)

    pub rows_listed : (list list' : List ℕ) → o + n ≤ length list → list' ≡ sets list 0 (both_bytes l r same m) → Ok (o + n) & list' ≡ list_rows_t c l r list
    unfolding list_rows_t pick
    rows_listed list list' h e =
        let w : length (list_t c l r) ≤ length list = omega (arith, long) in
        rw (le-ltb _ _ w, e, both_is, long)

all_behind : (l : List ℕ) (h : ℕ) → take (length l - h) (drop h l) ≡ drop h l
all_behind l h = take_all (length l - h) (drop h l) (omega (arith, length-drop h l))

pub forms_listed : (c : Choice) (l r list list' : List ℕ) (h : ℕ) (a : Result ℕ Refusal) → (a & list') ≡ list_rows_t c (take (length l - h) (drop h l)) (take (length r - h) (drop h r)) list → (a & list') ≡ list_rows_t c (drop h l) (drop h r) list
forms_listed c l r list list' h a e = rw (all_behind l h, all_behind r h) at e

-- ---- open_size

pub open_same : (b : Bool) → b ≡ true → ◌≡◌ {A = ℕ} 0 (pick b 0 36)
unfolding pick
open_same b h = rw h

pub open_other : (b : Bool) → b ≡ false → ◌≡◌ {A = ℕ} 36 (pick b 0 36)
unfolding pick
open_other b h = rw h
