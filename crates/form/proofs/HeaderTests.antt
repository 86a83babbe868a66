-- The header as the code tests it is the rules' header.
use Rattle.std.specs.Prelude.{Result, Ok, Err, ℕ}
use mathlib.Core.Path.{◌≡◌, refl, sym, ap, ◌∙◌}
use mathlib.Core.Bool.{Bool, true, false, ◌&&◌, not, and-true, and-false, and_assoc}
use mathlib.Core.Option.{Option, none, some}
use mathlib.Core.List.{List, [], ◌∷◌}
use native.Mathlib.Omega.{arith}
use Prim.Native.Nat.{ℕ, suc, ◌+◌, ◌*◌, ◌/◌, ◌%◌, ◌<◌, ◌≤◌}
use lib.Dec.{eqb, leb, ltb}
use lib.ListN.{length, get_or, take, drop, drop_of_length-le}
use lib.Seq.{drop-cons, get_or-take, length-take-le}
use borrow.Author.Rules.{rules}
use borrow.Author.Tests.{not-true, not-false}
use Rattle.kit.specs.Pick.{pick}
use Rattle.kit.proofs.Laws.{tests, yes!, no! }
use Rattle.rules.specs.Tools.{when◌then◌else◌, only, zeros, ◌or_else◌}
use Rattle.rules.specs.Rows.{value, bytes}
use Rattle.rules.specs.Versions.{Setting}
use Rattle.rules.specs.Answer.{mark, same_numbers, has_header, setting_of, row_count}
use Rattle.rows.proofs.Laws.{value_four}
use Rattle.form_bytes.specs.Begins.{begins_as}
use Rattle.limits.specs.declared.Limits.{Limits}
use Rattle.limits.specs.Held.{setting_in, limits_of, setting}
use Rattle.form.specs.Header.{header_in, header_for, header_to, header_of}
use Rattle.form.specs.HeaderTests.{is_marked_t, row_count_t}
use Rattle.form.specs.declared.header.BadHeader.TheVariants.{Wrong, Count}
use Rattle.form.specs.declared.header.BadHeader.{BadHeader}

-- ---- zeros

module _ (l : List ℕ) (to : ℕ) (fits : to ≤ length l) (i : ℕ) (T : Bool) (inv : zeros (drop i (take to l)) ≡ T) where
  pub zero_end : to ≤ i → true ≡ T
  zero_end h =
      let e : length (take to l) ≤ i = rw (length-take-le to l fits) h in
      let d = drop_of_length-le (take to l) e in
      rw d at inv

  module _ (h : i < to) where
    next : (eqb (get_or l i 0) 0 && zeros (drop (suc i) (take to l))) ≡ T
    next =
        let n : i < length (take to l) = rw (length-take-le to l fits) h in
        let d = drop-cons (take to l) i 0 n in
        rw (← get_or-take to l i 0 h) (rw d at inv)

    pub zero_not : (get_or l i 0 ≡ 0 → ⊥) → false ≡ T
    zero_not g = let t : eqb (get_or l i 0) 0 ≡ false = omega tests in rw t at next

    pub zero_on : get_or l i 0 ≡ 0 → zeros (drop (i + 1) (take to l)) ≡ T
    zero_on g =
        let t : eqb (get_or l i 0) 0 ≡ true = omega tests in
        let s : i + 1 ≡ suc i = omega arith in
        rw s (rw t at next)

pub ruleset zero_ways = (zero_end, zero_not, zero_on, rules)

-- ---- the mark

low_byte : (n : ℕ) → n < 256 → n % 256 ≡ n
low_byte n h = omega arith

high_byte : (n : ℕ) → n < 256 → n / 256 % 256 ≡ 0
high_byte n h = omega arith

marked_right : (s : Setting) → s.version.number < 256 → s.rules.number < 256 → (l : List ℕ) → same_numbers (take 6 l) (mark s) ≡ is_marked_t s.version.number s.rules.number l
unfolding is_marked_t mark same_numbers bytes pick
marked_right s v r [] = refl
marked_right s v r (a ∷ []) = simp (and-false, and_assoc)
marked_right s v r (a ∷ b ∷ []) = simp (and-false, and_assoc)
marked_right s v r (a ∷ b ∷ c ∷ []) = simp (and-false, and_assoc)
marked_right s v r (a ∷ b ∷ c ∷ d ∷ []) = simp (and-false, and_assoc)
marked_right s v r (a ∷ b ∷ c ∷ d ∷ e ∷ []) = simp (and-false, and_assoc)
marked_right s v r (a ∷ b ∷ c ∷ d ∷ e ∷ f ∷ l) =
    let n = suc (suc (suc (suc (suc (suc (length l)))))) in
    let t : ltb n 6 ≡ false = omega tests in
    rw (t, low_byte s.version.number v, high_byte s.version.number v, low_byte s.rules.number r) (simp (and-true, and_assoc))

-- what `is_marked` finds
module _ (v r : ℕ) (l : List ℕ) where
  pub marked_short : length l < 6 → false ≡ is_marked_t v r l
  unfolding is_marked_t
  marked_short h = yes! _ (omega tests) refl

  pub marked_found : 6 ≤ length l → (w : Bool) → w ≡ begins_as l v → (w && (eqb (get_or l 4 0) 0 && eqb (get_or l 5 0) r)) ≡ is_marked_t v r l
  unfolding is_marked_t
  marked_found h w p = no! _ (omega tests) (rw p)

-- ---- the row count

-- what stands behind it
module _ (long : Bool) where
  pub behind_four : long ≡ true → 10 ≡ 6 + pick long 4 2
  unfolding pick
  behind_four h = rw h

  pub behind_two : long ≡ false → 8 ≡ 6 + pick long 4 2
  unfolding pick
  behind_two h = rw h

two_bytes : (l : List ℕ) → value (take 2 (drop 6 l)) ≡ get_or l 6 0 + get_or l 7 0 * 256
unfolding value
two_bytes [] = refl
two_bytes (a ∷ []) = refl
two_bytes (a ∷ b ∷ []) = refl
two_bytes (a ∷ b ∷ c ∷ []) = refl
two_bytes (a ∷ b ∷ c ∷ d ∷ []) = refl
two_bytes (a ∷ b ∷ c ∷ d ∷ e ∷ []) = refl
two_bytes (a ∷ b ∷ c ∷ d ∷ e ∷ f ∷ []) = refl
two_bytes (a ∷ b ∷ c ∷ d ∷ e ∷ f ∷ g ∷ []) = omega arith
two_bytes (a ∷ b ∷ c ∷ d ∷ e ∷ f ∷ g ∷ h ∷ l) = omega arith

count_by : (long : Bool) (l : List ℕ) → value (take (pick long 4 2) (drop 6 l)) ≡ row_count_t long l
unfolding pick row_count_t
count_by true l = value_four l 6
count_by false l = two_bytes l

count_right : (lim : Limits) (l : List ℕ) → row_count (setting_in lim).version l ≡ row_count_t lim.wide l
unfolding row_count setting_in
count_right lim l = count_by lim.wide l

-- what `row_count` finds
module _ (l : List ℕ) (long : Bool) (a b n : ℕ) (p : a ≡ get_or l 6 0) (q : b ≡ get_or l 7 0) where
  pub count_short : long ≡ false → a + b * 256 ≡ row_count_t long l
  unfolding row_count_t pick
  count_short h = rw (h, p, q)

  pub count_long : long ≡ true → (c d : ℕ) → c ≡ get_or l 8 0 → d ≡ get_or l 9 0 → a + b * 256 + c * 65536 + d * 16777216 ≡ row_count_t long l
  unfolding row_count_t pick
  count_long h c d r s = rw (h, p, q, r, s)

-- ---- the header

module _ (lim : Limits) (l : List ℕ) (h : ℕ) (is : h ≡ lim.header) where
  -- its three tests, one after another
  pub header_short : length l < h → false ≡ has_header (setting_in lim) l
  unfolding has_header setting_in
  header_short g = let t : leb lim.header (length l) ≡ false = omega tests in rw t

  module _ (g : h ≤ length l) (vl : lim.version < 256) (rl : lim.rules < 256) (m : Bool) (e : m ≡ is_marked_t lim.version lim.rules l) where
    marked : same_numbers (take 6 l) (mark (setting_in lim)) ≡ m
    unfolding setting_in
    marked = marked_right (setting_in lim) vl rl l ∙ sym e

    pub header_other : not m ≡ true → false ≡ has_header (setting_in lim) l
    unfolding has_header
    header_other n =
        let t : leb (setting_in lim).version.header (length l) ≡ true = unfold setting_in in omega tests in
        rw (t, marked, not-true m n) refl

    pub header_rest : not m ≡ false → (from : ℕ) → from ≡ 6 + pick lim.wide 4 2 → (z : Bool) → z ≡ zeros (drop from (take h l)) → z ≡ has_header (setting_in lim) l
    unfolding has_header
    header_rest n from f z zs =
        let t : leb (setting_in lim).version.header (length l) ≡ true = unfold setting_in in omega tests in
        let k : zeros (drop (6 + (setting_in lim).version.counting) (take (setting_in lim).version.header l)) ≡ z = unfold setting_in in sym (rw (← is, ← f) zs) in
        rw (t, marked, not-false m n, k) refl

-- the ways through `has_header`
pub ruleset mark_ways = (header_short, header_other, header_rest, rules)

module _ (lim : Limits) (l : List ℕ) (m : Bool) (is : m ≡ has_header (setting_in lim) l) where
  pub not_headed : not m ≡ true → Err Wrong ≡ header_to lim l
  unfolding header_to header_for only
  not_headed e = rw (← is, not-true m e) refl

  module _ (e : not m ≡ false) where
    headed : header_in (setting_in lim).version l ≡ header_to lim l
    unfolding header_to header_for only
    headed = rw (← is, not-false m e) refl

    module _ (n : ℕ) (got : n ≡ row_count_t lim.wide l) where
      counted : row_count (setting_in lim).version l ≡ n
      counted = count_right lim l ∙ sym got

      pub no_rows_lem : n ≡ 0 → Err Count ≡ header_to lim l
      unfolding header_in when◌then◌else◌
      no_rows_lem h = sym (sym headed ∙ rw (counted, h))

      pub many_rows : lim.rows < n → Err Count ≡ header_to lim l
      unfolding header_in when◌then◌else◌
      many_rows h =
          let t : leb 1 n ≡ true = omega tests in
          let u : leb n (setting_in lim).version.rows ≡ false = unfold setting_in in omega tests in
          sym (sym headed ∙ rw (counted, t, u))

      module _ (not_None : n ≡ 0 → ⊥) (not-many : n ≤ lim.rows) (b : ℕ) (bs : b ≡ lim.header) where
        within : (leb 1 n && leb n (setting_in lim).version.rows) ≡ true
        unfolding setting_in
        within =
            let t : leb 1 n ≡ true = omega tests in
            let u : leb n lim.rows ≡ true = omega tests in
            rw (t, u) refl

        pub other_length : (length l ≡ b + 16 * n → ⊥) → Err Count ≡ header_to lim l
        unfolding header_in when◌then◌else◌
        other_length h =
            let v : eqb (length l) ((setting_in lim).version.header + 16 * n) ≡ false = unfold setting_in in rw (← bs) (omega tests) in
            sym (sym headed ∙ rw (counted, within, v))

        pub right_length : length l ≡ b + 16 * n → Ok n ≡ header_to lim l
        unfolding header_in when◌then◌else◌
        right_length h =
            let v : eqb (length l) ((setting_in lim).version.header + 16 * n) ≡ true = unfold setting_in in rw (← bs) (omega tests) in
            sym (sym headed ∙ rw (counted, within, v))

-- every way through `header_to`
pub ruleset ways = (not_headed, no_rows_lem, many_rows, other_length, right_length, rules)

-- of the settings in force there is one
or_none : {A : Type 0} (o : Option A) → (o or_else none) ≡ o
unfolding ◌or_else◌
or_none none = refl
or_none (some a) = refl

pub header_input : (lim : Limits) → lim ≡ limits_of (setting 0) → (l : List ℕ) (r : Result ℕ BadHeader) → r ≡ header_to lim l → r ≡ header_of l
header_input lim h l r e = e ∙ rw h (unfold header_to header_of setting_of setting_in pick in ap (λ o. header_for o l) (sym (or_none _)))
