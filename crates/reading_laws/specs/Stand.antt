-- Rows that stand in the bytes of a form, one behind another.
use Rattle.std.specs.Prelude.{◌≡◌, refl, List, [], ◌∷◌, ◌++◌, map, ℕ, zero, suc, ◌+◌, length, get_or, take, drop}
use Rattle.std.proofs.Common.{ap, sym, ◌∙◌, subst, arith, add-zero, get_or-drop, drop-drop}
use Rattle.std.proofs.Math.Option.{some}
use Rattle.std.proofs.Math.ListN.{get_elem?}
use Rattle.rules.specs.Rows.{value, Raw, raw, raw_at, Row, encode, decode_row}
use Rattle.rules.specs.Answer.{rows_of}
use Rattle.rules.specs.Laws.ToolLaws.{ok_at}
use Rattle.rules.specs.Laws.RowLaws.{decode_parts}
use Rattle.rules.specs.Laws.Results.{some_same, no_option}
use Rattle.rows.specs.FromParts.{two, four}
use Rattle.rows.proofs.Laws.{value_four}
use Rattle.row_parts.specs.Parts.{start_of, code_at, b_at, e_at, x_at, y_at, z_at}

-- ---- one row

-- the six parts of a row of a form
abbrev pub raw_of : (form : List ℕ) (row : ℕ) → Raw
raw_of form row = raw (code_at form row) (b_at form row) (e_at form row) (x_at form row) (y_at form row) (z_at form row)

abbrev pub Is : (form : List ℕ) (row : ℕ) → Row → Type 0
Is form row r = raw_of form row ≡ encode r

abbrev pub code_part : Raw → ℕ
code_part (raw code b e x y z) = code

abbrev pub b_part : Raw → ℕ
b_part (raw code b e x y z) = b

abbrev pub e_part : Raw → ℕ
e_part (raw code b e x y z) = e

abbrev pub x_part : Raw → ℕ
x_part (raw code b e x y z) = x

abbrev pub y_part : Raw → ℕ
y_part (raw code b e x y z) = y

abbrev pub z_part : Raw → ℕ
z_part (raw code b e x y z) = z

-- ---- rows

abbrev pub At : (form : List ℕ) (row : ℕ) → List Row → Type 0
At form row [] = Unit {0}
At form row (r ∷ rs) = Is form row r × At form (row + 1) rs

-- the row behind them
abbrev pub behind : (row : ℕ) → List Row → ℕ
behind row [] = row
behind row (r ∷ rs) = behind (row + 1) rs

pub behind_length : (row : ℕ) (rs : List Row) → behind row rs ≡ row + length rs
behind_length row [] = omega arith
behind_length row (r ∷ rs) = let e = behind_length (row + 1) rs in omega (arith, e)

pub behind_append : (row : ℕ) (xs ys : List Row) → behind row (xs ++ ys) ≡ behind (behind row xs) ys
behind_append row [] ys = refl
behind_append row (x ∷ xs) ys = behind_append (row + 1) xs ys

pub at_left : (form : List ℕ) (row : ℕ) (xs ys : List Row) → At form row (xs ++ ys) → At form row xs
at_left form row [] ys a = tt
at_left form row (x ∷ xs) ys a = (a.0, at_left form (row + 1) xs ys a.1)

pub at_right : (form : List ℕ) (row : ℕ) (xs ys : List Row) → At form row (xs ++ ys) → At form (behind row xs) ys
at_right form row [] ys a = a
at_right form row (x ∷ xs) ys a = at_right form (row + 1) xs ys a.1

pub at_both : (form : List ℕ) (row : ℕ) (xs ys : List Row) → At form row xs → At form (behind row xs) ys → At form row (xs ++ ys)
at_both form row [] ys a b = b
at_both form row (x ∷ xs) ys a b = (a.0, at_both form (row + 1) xs ys a.1 b)

pub at_elem : (form : List ℕ) (row : ℕ) (rs : List Row) (k : ℕ) (r : Row) → At form row rs → get_elem? rs k ≡ some r → Is form (row + k) r
at_elem form row [] k r a e = no_option r e
at_elem form row (x ∷ rs) zero r a e = let same : row ≡ row + 0 = omega arith in subst (λ (n : ℕ). Is form n r) same (subst (Is form row) (some_same x r e) a.0)
at_elem form row (x ∷ rs) (suc k) r a e = let next : (row + 1) + k ≡ row + suc k = omega arith in subst (λ (n : ℕ). Is form n r) next (at_elem form (row + 1) rs k r a.1 e)

-- ---- bytes

value_one : (l : List ℕ) (a : ℕ) → value (take 1 (drop a l)) ≡ get_or l a 0
unfolding value
value_one l a = here (drop a l) ∙ get_or-drop a l 0 0 ∙ rw add-zero
  where
    here : (m : List ℕ) → value (take 1 m) ≡ get_or m 0 0
    here [] = refl
    here (b ∷ m) = omega arith

value_two : (l : List ℕ) (a : ℕ) → value (take 2 (drop a l)) ≡ two l a
unfolding value
value_two l a = here (drop a l) ∙ rw (get_or-drop a l 0 0, get_or-drop a l 1 0, add-zero)
  where
    here : (m : List ℕ) → value (take 2 m) ≡ two m 0
    here [] = refl
    here (b ∷ []) = omega arith
    here (b ∷ c ∷ m) = omega arith

raw_at_lem : (l : List ℕ) (a : ℕ) → raw_at (drop a l) ≡ raw (get_or l a 0) (get_or l (a + 1) 0) (two l (a + 2)) (four l (a + 4)) (four l (a + 8)) (four l (a + 12))
unfolding raw_at
raw_at_lem l a =
    rw (drop-drop 1 a l, drop-drop 2 a l, drop-drop 4 a l, drop-drop 8 a l, drop-drop 12 a l, value_one l a, value_one l (a + 1), value_two l (a + 2), value_four l (a + 4), value_four l (a + 8), value_four l (a + 12))

row_stands : (form : List ℕ) (row top : ℕ) (r : Row) → decode_row top (drop (start_of row) form) ≡ some r → Is form row r
unfolding code_at b_at e_at x_at y_at z_at decode_row
row_stands form row top r e = sym (raw_at_lem form (start_of row)) ∙ sym (ok_at _ _ r (decode_parts top (raw_at (drop (start_of row) form))) e)

-- Rows that are taken from bytes stand in them.
pub rows_stand : (form : List ℕ) (row top count : ℕ) (rs : List Row) → rows_of top count (drop (start_of row) form) ≡ map some rs → At form row rs
unfolding rows_of
rows_stand form row top count [] e = tt
rows_stand form row top zero (r ∷ rs) e = let no_way : ◌≡◌ {A = ℕ} 0 1 = cc in absurd (omega arith)
rows_stand form row top (suc count) (r ∷ rs) e =
    let first : decode_row top (drop (start_of row) form) ≡ some r = cc in
    let rest : rows_of top count (drop 16 (drop (start_of row) form)) ≡ map some rs = cc in
    let one_on_lem : start_of row + 16 ≡ start_of (row + 1) = omega arith in
    let next : drop 16 (drop (start_of row) form) ≡ drop (start_of (row + 1)) form = drop-drop 16 (start_of row) form ∙ ap (λ (n : ℕ). drop n form) one_on_lem in
    (row_stands form row top r first, rows_stand form (row + 1) top count rs (rw next at rest))
