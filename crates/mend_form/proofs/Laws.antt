-- The ways through the code.
use mathlib.Core.Path.{◌≡◌, refl, sym, ap, ◌∙◌}
use mathlib.Core.Bool.{Bool, true, false}
use mathlib.Core.List.{List, [], ◌++◌, append-nil}
use native.Mathlib.Omega.{arith}
use native.Mathlib.Nat.{zero-add}
use native.Mathlib.Numerals.{add-one}
use Prim.Native.Nat.{ℕ, zero, suc, ◌+◌, ◌-◌, ◌*◌, ◌/◌, ◌%◌, ◌≤◌, ◌<◌}
use lib.Dec.{eqb}
use lib.ListN.{length, get_or, set, drop, replicate, length-append}
use lib.Seq.{sets, sets-eq, drop-length}
use borrow.Author.Rules.{rules}
use borrow.Author.Tests.{ne_eqb}
use Rattle.kit.specs.Pick.{pick}
use Rattle.kit.proofs.Laws.{tests, left_suc, yes!, no! }
use Rattle.rules.specs.Tools.{when◌then◌else◌}
use Rattle.rules.specs.Rows.{Close, encode_row}
use Rattle.rules.specs.Rows
use Rattle.mending.specs.Mend.{closes_root, depth_after, close_rows}
use Rattle.mend_form.specs.Kept.{kept, kept_t, kept_in}
use Rattle.mend_form.specs.Filled.{part_at, stays_t, byte_t, mended_row_t, mended_rows_t, mended_body_t, row_in}
use Rattle.mend_form.specs.declared.Kept.{Kept}

-- ---- depth_after

module _ (code depth : ℕ) where
  pub depth_opens : code ≡ 7 → depth + 1 ≡ depth_after code depth
  unfolding depth_after when◌then◌else◌
  depth_opens h = rw (h, add-one)

  pub depth_none : code ≡ 8 → depth ≡ 0 → depth ≡ depth_after code depth
  unfolding depth_after when◌then◌else◌
  depth_none h e = rw (h, e)

  pub depth_closes : code ≡ 8 → depth - 1 ≡ depth_after code depth
  unfolding depth_after when◌then◌else◌
  depth_closes h = rw h

  pub depth_stays : (code ≡ 7 → ⊥) → (code ≡ 8 → ⊥) → depth ≡ depth_after code depth
  unfolding depth_after when◌then◌else◌
  depth_stays h g = rw (ne_eqb code 7 h, ne_eqb code 8 g)

pub ruleset depth_ways = (depth_opens, depth_none, depth_closes, depth_stays, rules)

-- ---- kept_in

module _ (rows : List ℕ) (i n depth : ℕ) (K : Kept) (inv : kept_t rows i (n - i) depth ≡ K) where
  pub kept_root : {t : Bool} → i < n → t ≡ closes_root (get_or rows (16 * i) 0) depth → t ≡ true → kept (i + 1) 0 ≡ K
  unfolding kept_t pick
  kept_root h e f = (rw (left_suc i n h, ← e, f) at inv)

  pub kept_turn : {t : Bool} {d : ℕ} → i < n → t ≡ closes_root (get_or rows (16 * i) 0) depth → t ≡ false → d ≡ depth_after (get_or rows (16 * i) 0) depth
      → kept_t rows (i + 1) (n - (i + 1)) d ≡ K
  unfolding kept_t pick
  kept_turn h e f g = rw g (rw (left_suc i n h, ← e, f) at inv)

  pub kept_end : n ≤ i → i ≤ n → kept n depth ≡ K
  unfolding kept_t
  kept_end h g =
      let z : n - i ≡ 0 = omega arith in
      let e : n ≡ i = omega arith in
      ap (λ (m : ℕ). kept m depth) e ∙ (rw z at inv)

pub kept_start : (rows : List ℕ) → kept_t rows 0 (length rows / 16 - 0) 0 ≡ kept_in rows
unfolding kept_in
kept_start rows = let z : length rows / 16 - 0 ≡ length rows / 16 = omega arith in rw z

pub ruleset kept_ways = (kept_root, kept_turn, kept_end, kept_start, rules)

-- ---- stays, mended_byte

module _ (code b part : ℕ) where
  pub stays_all : (code ≡ 1 → ⊥) → (code ≡ 2 → ⊥) → (code ≡ 4 → ⊥) → (code ≡ 6 → ⊥) → (code ≡ 7 → ⊥) → (code ≡ 8 → ⊥) → (code ≡ 9 → ⊥) → true ≡ stays_t code b part
  unfolding stays_t pick
  stays_all h₁ h₂ h₄ h₆ h₇ h₈ h₉ = rw (ne_eqb code 1 h₁, ne_eqb code 2 h₂, ne_eqb code 4 h₄, ne_eqb code 6 h₆, ne_eqb code 7 h₇, ne_eqb code 8 h₈, ne_eqb code 9 h₉)

  pub stays_none : code ≡ 8 → false ≡ stays_t code b part
  unfolding stays_t pick
  stays_none h = rw h

  pub stays_export : {t : Bool} → code ≡ 9 → t ≡ eqb part 3 → t ≡ stays_t code b part
  unfolding stays_t pick
  stays_export h e = rw h e

module _ (code b j byte part : ℕ) (is : part ≡ part_at j) where
  pub byte_code : part ≡ 0 → byte ≡ byte_t code b j byte
  unfolding byte_t pick
  byte_code h = rw (← is, h)

  module _ (other : part ≡ 0 → ⊥) where
    pub byte_low : code ≡ 5 → j ≡ 2 → byte % 4 ≡ byte_t code b j byte
    unfolding byte_t pick
    byte_low h g = let e : eqb j 2 ≡ true = omega tests in rw (← is, ne_eqb part 0 other, h, e)

    pub byte_high : code ≡ 5 → j ≡ 3 → 0 ≡ byte_t code b j byte
    unfolding byte_t pick
    byte_high h g = let e : eqb j 2 ≡ false = omega tests in let f : eqb j 3 ≡ true = omega tests in rw (← is, ne_eqb part 0 other, h, e, f)

    pub byte_outer : code ≡ 5 → (j ≡ 2 → ⊥) → (j ≡ 3 → ⊥) → byte ≡ byte_t code b j byte
    unfolding byte_t pick
    byte_outer h g f = rw (← is, ne_eqb part 0 other, h, ne_eqb j 2 g, ne_eqb j 3 f)

    module _ {t : Bool} (asked : t ≡ stays_t code b part) (h : code ≡ 5 → ⊥) where
      pub byte_stays : t ≡ true → byte ≡ byte_t code b j byte
      unfolding byte_t pick
      byte_stays e = rw (← is, ne_eqb part 0 other, ne_eqb code 5 h, ← asked, e)

      pub byte_zero : t ≡ false → 0 ≡ byte_t code b j byte
      unfolding byte_t pick
      byte_zero e = rw (← is, ne_eqb part 0 other, ne_eqb code 5 h, ← asked, e)

pub ruleset byte_ways = (byte_code, byte_low, byte_high, byte_outer, byte_stays, byte_zero, rules)

-- ---- the bytes of a row, one behind the other

pub row_start : (rows new : List ℕ) (a : ℕ) → sets new 0 (mended_row_t rows a 0 (16 - 0)) ≡ sets new 0 (mended_row_t rows a 0 16)
row_start rows new a = refl

pub row_turn : (rows new T : List ℕ) (a j v : ℕ) → sets new j (mended_row_t rows a j (16 - j)) ≡ T → j < 16
    → v ≡ byte_t (get_or rows a 0) (get_or rows (a + 1) 0) j (get_or rows (a + j) 0) → sets (set new j v) (j + 1) (mended_row_t rows a (j + 1) (16 - (j + 1))) ≡ T
unfolding mended_row_t
row_turn rows new T a j v inv h e =
    let next : sets (set new j v) (suc j) (mended_row_t rows a (j + 1) (16 - (j + 1))) ≡ T = rw e (rw (left_suc j 16 h) at inv) in
    ap (λ (n : ℕ). sets (set new j v) n (mended_row_t rows a (j + 1) (16 - (j + 1)))) (add-one j) ∙ next

pub row_size : (rows : List ℕ) (a j left : ℕ) → length (mended_row_t rows a j left) ≡ left
unfolding mended_row_t
row_size rows a j zero = refl
row_size rows a j (suc left) = ap suc (row_size rows a (j + 1) left)

all_stored : (start vs : List ℕ) → length start ≡ 16 → length vs ≡ 16 → sets start 0 vs ≡ vs
all_stored start vs size wide =
    let past : drop (0 + length vs) start ≡ [] = ap (λ (n : ℕ). drop n start) (zero-add (length vs) ∙ (wide ∙ sym size)) ∙ drop-length start in
    sets-eq vs start 0 (omega arith) ∙ (ap (λ (l : List ℕ). vs ++ l) past ∙ append-nil vs)

none_left : (rows new T : List ℕ) (a j : ℕ) → sets new j (mended_row_t rows a j 0) ≡ T → new ≡ T
unfolding mended_row_t
none_left rows new T a j e = e

pub row_end : (rows new start : List ℕ) (a j : ℕ) → sets new j (mended_row_t rows a j (16 - j)) ≡ sets start 0 (mended_row_t rows a 0 16) → 16 ≤ j → length start ≡ 16 → new ≡ mended_row_t rows a 0 16
row_end rows new start a j inv h size =
    let z : 16 - j ≡ 0 = omega arith in
    none_left rows new _ a j (rw z at inv) ∙ all_stored start (mended_row_t rows a 0 16) size (row_size rows a 0 16)

pub ruleset row_ways = (row_start, row_turn, row_end, rules)

-- ---- row_of

module _ (rows : List ℕ) (k : Kept) (i : ℕ) where
  pub row_behind : k.rows ≤ i → i - k.rows < k.scopes → set (replicate 16 0) 0 8 ≡ row_in rows k i
  unfolding row_in Rows.computes
  row_behind h g = yes! _ (omega tests) (yes! _ (omega tests) refl)

  pub row_past : k.rows ≤ i → k.scopes ≤ i - k.rows → replicate 16 0 ≡ row_in rows k i
  unfolding row_in
  row_past h g = yes! _ (omega tests) (no! _ (omega tests) refl)

  module _ (h : i < k.rows) where
    pub row_none : length rows / 16 ≤ i → replicate 16 0 ≡ row_in rows k i
    unfolding row_in
    row_none g = no! _ (omega tests) (yes! _ (omega tests) refl)

    pub row_stays : {r : List ℕ} → r ≡ mended_row_t rows (16 * i) 0 16 → i < length rows / 16 → r ≡ row_in rows k i
    unfolding row_in
    row_stays e g = no! _ (omega tests) (no! _ (omega tests) e)

pub ruleset of_ways = (row_behind, row_past, row_none, row_stays, rules)

-- ---- how long they are

pub rows_size : (rows : List ℕ) (i left : ℕ) → length (mended_rows_t rows i left) ≡ 16 * left
unfolding mended_rows_t
rows_size rows i zero = refl
rows_size rows i (suc left) = omega (arith, row_size rows (16 * i) 0 16, rows_size rows (i + 1) left, length-append (mended_row_t rows (16 * i) 0 16) (mended_rows_t rows (i + 1) left))

pub close_size : length (encode_row Close) ≡ 16
unfolding Rows.computes
close_size = refl

pub close_rows_size : (n : ℕ) → length (close_rows n) ≡ 16 * n
unfolding close_rows
close_rows_size zero = refl
close_rows_size (suc n) = omega (arith, close_size, close_rows_size n, length-append (encode_row Close) (close_rows n))

pub body_size : (rows : List ℕ) (k : Kept) → length (mended_body_t rows k) ≡ 16 * (k.rows + k.scopes)
unfolding mended_body_t
body_size rows k = omega (arith, rows_size rows 0 k.rows, close_rows_size k.scopes, length-append (mended_rows_t rows 0 k.rows) (close_rows k.scopes))
