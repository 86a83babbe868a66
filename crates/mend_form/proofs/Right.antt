-- The rows that the code makes are those of the rules' mended form.
use mathlib.Core.Path.{◌≡◌, refl, sym, ap, ap₂, ◌∙◌, subst}
use mathlib.Core.Bool.{Bool, true, false}
use mathlib.Core.List.{List, [], ◌∷◌, ◌++◌, append_assoc, append-nil}
use native.Mathlib.Omega.{arith}
use native.Mathlib.Nat.{add-zero, zero-add}
use Prim.Native.Nat.{ℕ, zero, suc, ◌+◌, ◌*◌, ◌/◌, ◌%◌, ◌≤◌, ◌<◌}
use lib.Dec.{eqb}
use lib.ListN.{length, get_or, take, drop, length-drop, get_or-eq_default}
use lib.Seq.{drop-drop, get_or-take, get_or-drop, length-take-le}
use Rattle.kit.specs.Pick.{pick}
use Rattle.kit.proofs.Laws.{tests}
use Rattle.rules.specs.Tools.{when◌then◌else◌}
use Rattle.rules.specs.Rows.{value, bytes}
use Rattle.mending.specs.Mend.{Piece, piece, afters, Fate, stays, fates, fated, parts, row_pieces, closes_root, depth_after, close_rows, all_rows}
use Rattle.mending.proofs.Laws.Pieces.{afters_append}
use Rattle.mend_form.specs.Kept.{kept, kept_t, kept_in}
use Rattle.mend_form.specs.Filled.{part_at, stays_t, byte_t, mended_row_t, mended_rows_t, mended_body_t}
use Rattle.mend_form.specs.declared.Kept.{Kept}

-- ---- a row

value_one : (c : ℕ) → value (c ∷ []) ≡ c
unfolding value
value_one c = omega arith

abbrev widths : List ℕ
widths = 1 ∷ 1 ∷ 2 ∷ 4 ∷ 4 ∷ 4 ∷ []

-- the bytes of a row, by its code
abbrev Mends : (c b e f x₀ x₁ x₂ x₃ y₀ y₁ y₂ y₃ z₀ z₁ z₂ z₃ : ℕ) → Type 0
Mends c b e f x₀ x₁ x₂ x₃ y₀ y₁ y₂ y₃ z₀ z₁ z₂ z₃ = mended_row_t (c ∷ b ∷ e ∷ f ∷ x₀ ∷ x₁ ∷ x₂ ∷ x₃ ∷ y₀ ∷ y₁ ∷ y₂ ∷ y₃ ∷ z₀ ∷ z₁ ∷ z₂ ∷ z₃ ∷ []) 0 0 16 ≡ afters (parts widths (stays ∷ fates c b) (c ∷ b ∷ e ∷ f ∷ x₀ ∷ x₁ ∷ x₂ ∷ x₃ ∷ y₀ ∷ y₁ ∷ y₂ ∷ y₃ ∷ z₀ ∷ z₁ ∷ z₂ ∷ z₃ ∷ []))

field_row_lem : (b e f x₀ x₁ x₂ x₃ y₀ y₁ y₂ y₃ z₀ z₁ z₂ z₃ : ℕ) (t u : Bool) → eqb b 19 ≡ t → eqb b 22 ≡ u → Mends 1 b e f x₀ x₁ x₂ x₃ y₀ y₁ y₂ y₃ z₀ z₁ z₂ z₃
unfolding mended_row_t byte_t stays_t part_at pick fates fated parts afters bytes value when◌then◌else◌
field_row_lem b e f x₀ x₁ x₂ x₃ y₀ y₁ y₂ y₃ z₀ z₁ z₂ z₃ true u p q = rw p
field_row_lem b e f x₀ x₁ x₂ x₃ y₀ y₁ y₂ y₃ z₀ z₁ z₂ z₃ false true p q = rw (p, q)
field_row_lem b e f x₀ x₁ x₂ x₃ y₀ y₁ y₂ y₃ z₀ z₁ z₂ z₃ false false p q = rw (p, q)

two_low : (e f : ℕ) → (e % 4 ∷ 0 ∷ []) ≡ bytes 2 (value (e ∷ f ∷ []) % 4)
unfolding bytes value
two_low e f =
    let p : e % 4 ≡ (e + 256 * (f + 256 * 0)) % 4 % 256 = omega arith in
    let q : 0 ≡ (e + 256 * (f + 256 * 0)) % 4 / 256 % 256 = omega arith in
    ap₂ (λ (v w : ℕ). v ∷ w ∷ []) p q

outer_row_lem : (b e f x₀ x₁ x₂ x₃ y₀ y₁ y₂ y₃ z₀ z₁ z₂ z₃ : ℕ) → Mends 5 b e f x₀ x₁ x₂ x₃ y₀ y₁ y₂ y₃ z₀ z₁ z₂ z₃
unfolding mended_row_t byte_t stays_t part_at pick fates fated parts afters
outer_row_lem b e f x₀ x₁ x₂ x₃ y₀ y₁ y₂ y₃ z₀ z₁ z₂ z₃ =
    ap (λ (l : List ℕ). 5 ∷ b ∷ (l ++ (x₀ ∷ x₁ ∷ x₂ ∷ x₃ ∷ y₀ ∷ y₁ ∷ y₂ ∷ y₃ ∷ z₀ ∷ z₁ ∷ z₂ ∷ z₃ ∷ []))) (two_low e f)

no_fates : (c b : ℕ) → 10 ≤ c → fates c b ≡ []
unfolding fates
no_fates c b h = past_ten _ _ _ _ _ _ _ _ _ _ c h
  where
    past_ten : (f₀ f₁ f₂ f₃ f₄ f₅ f₆ f₇ f₈ f₉ : List Fate) (n : ℕ) → 10 ≤ n → get_or (f₀ ∷ f₁ ∷ f₂ ∷ f₃ ∷ f₄ ∷ f₅ ∷ f₆ ∷ f₇ ∷ f₈ ∷ f₉ ∷ []) n [] ≡ []
    past_ten f₀ f₁ f₂ f₃ f₄ f₅ f₆ f₇ f₈ f₉ n g = get_or-eq_default (f₀ ∷ f₁ ∷ f₂ ∷ f₃ ∷ f₄ ∷ f₅ ∷ f₆ ∷ f₇ ∷ f₈ ∷ f₉ ∷ []) [] g

other_row : (c b e f x₀ x₁ x₂ x₃ y₀ y₁ y₂ y₃ z₀ z₁ z₂ z₃ : ℕ) → 10 ≤ c → Mends c b e f x₀ x₁ x₂ x₃ y₀ y₁ y₂ y₃ z₀ z₁ z₂ z₃
unfolding mended_row_t byte_t stays_t part_at pick fates fated parts afters bytes value when◌then◌else◌
other_row c b e f x₀ x₁ x₂ x₃ y₀ y₁ y₂ y₃ z₀ z₁ z₂ z₃ h =
    let h₁ : eqb c 1 ≡ false = omega tests in
    let h₂ : eqb c 2 ≡ false = omega tests in
    let h₄ : eqb c 4 ≡ false = omega tests in
    let h₅ : eqb c 5 ≡ false = omega tests in
    let h₆ : eqb c 6 ≡ false = omega tests in
    let h₇ : eqb c 7 ≡ false = omega tests in
    let h₈ : eqb c 8 ≡ false = omega tests in
    let h₉ : eqb c 9 ≡ false = omega tests in
    let none : fates c b ≡ [] = no_fates c b h in
    rw (none, h₁, h₂, h₄, h₅, h₆, h₇, h₈, h₉)

by_code_lem : (c b e f x₀ x₁ x₂ x₃ y₀ y₁ y₂ y₃ z₀ z₁ z₂ z₃ : ℕ) → Mends c b e f x₀ x₁ x₂ x₃ y₀ y₁ y₂ y₃ z₀ z₁ z₂ z₃
unfolding mended_row_t byte_t stays_t part_at pick fates fated parts afters bytes value when◌then◌else◌
by_code_lem zero b e f x₀ x₁ x₂ x₃ y₀ y₁ y₂ y₃ z₀ z₁ z₂ z₃ = refl
by_code_lem (suc zero) b e f x₀ x₁ x₂ x₃ y₀ y₁ y₂ y₃ z₀ z₁ z₂ z₃ = field_row_lem b e f x₀ x₁ x₂ x₃ y₀ y₁ y₂ y₃ z₀ z₁ z₂ z₃ (eqb b 19) (eqb b 22) refl refl
by_code_lem (suc (suc zero)) b e f x₀ x₁ x₂ x₃ y₀ y₁ y₂ y₃ z₀ z₁ z₂ z₃ = refl
by_code_lem (suc (suc (suc zero))) b e f x₀ x₁ x₂ x₃ y₀ y₁ y₂ y₃ z₀ z₁ z₂ z₃ = refl
by_code_lem (suc (suc (suc (suc zero)))) b e f x₀ x₁ x₂ x₃ y₀ y₁ y₂ y₃ z₀ z₁ z₂ z₃ = refl
by_code_lem (suc (suc (suc (suc (suc zero))))) b e f x₀ x₁ x₂ x₃ y₀ y₁ y₂ y₃ z₀ z₁ z₂ z₃ = outer_row_lem b e f x₀ x₁ x₂ x₃ y₀ y₁ y₂ y₃ z₀ z₁ z₂ z₃
by_code_lem (suc (suc (suc (suc (suc (suc zero)))))) b e f x₀ x₁ x₂ x₃ y₀ y₁ y₂ y₃ z₀ z₁ z₂ z₃ = refl
by_code_lem (suc (suc (suc (suc (suc (suc (suc zero))))))) b e f x₀ x₁ x₂ x₃ y₀ y₁ y₂ y₃ z₀ z₁ z₂ z₃ = refl
by_code_lem (suc (suc (suc (suc (suc (suc (suc (suc zero)))))))) b e f x₀ x₁ x₂ x₃ y₀ y₁ y₂ y₃ z₀ z₁ z₂ z₃ = refl
by_code_lem (suc (suc (suc (suc (suc (suc (suc (suc (suc zero))))))))) b e f x₀ x₁ x₂ x₃ y₀ y₁ y₂ y₃ z₀ z₁ z₂ z₃ = refl
by_code_lem (suc (suc (suc (suc (suc (suc (suc (suc (suc (suc n)))))))))) b e f x₀ x₁ x₂ x₃ y₀ y₁ y₂ y₃ z₀ z₁ z₂ z₃ = other_row (suc (suc (suc (suc (suc (suc (suc (suc (suc (suc n)))))))))) b e f x₀ x₁ x₂ x₃ y₀ y₁ y₂ y₃ z₀ z₁ z₂ z₃ (omega arith)

row_right : (row : List ℕ) → length row ≡ 16 → mended_row_t row 0 0 16 ≡ afters (row_pieces row)
unfolding row_pieces
row_right [] h = absurd (omega arith)
row_right (c ∷ []) h = absurd (omega arith)
row_right (c ∷ b ∷ []) h = absurd (omega arith)
row_right (c ∷ b ∷ e ∷ []) h = absurd (omega arith)
row_right (c ∷ b ∷ e ∷ f ∷ []) h = absurd (omega arith)
row_right (c ∷ b ∷ e ∷ f ∷ x₀ ∷ []) h = absurd (omega arith)
row_right (c ∷ b ∷ e ∷ f ∷ x₀ ∷ x₁ ∷ []) h = absurd (omega arith)
row_right (c ∷ b ∷ e ∷ f ∷ x₀ ∷ x₁ ∷ x₂ ∷ []) h = absurd (omega arith)
row_right (c ∷ b ∷ e ∷ f ∷ x₀ ∷ x₁ ∷ x₂ ∷ x₃ ∷ []) h = absurd (omega arith)
row_right (c ∷ b ∷ e ∷ f ∷ x₀ ∷ x₁ ∷ x₂ ∷ x₃ ∷ y₀ ∷ []) h = absurd (omega arith)
row_right (c ∷ b ∷ e ∷ f ∷ x₀ ∷ x₁ ∷ x₂ ∷ x₃ ∷ y₀ ∷ y₁ ∷ []) h = absurd (omega arith)
row_right (c ∷ b ∷ e ∷ f ∷ x₀ ∷ x₁ ∷ x₂ ∷ x₃ ∷ y₀ ∷ y₁ ∷ y₂ ∷ []) h = absurd (omega arith)
row_right (c ∷ b ∷ e ∷ f ∷ x₀ ∷ x₁ ∷ x₂ ∷ x₃ ∷ y₀ ∷ y₁ ∷ y₂ ∷ y₃ ∷ []) h = absurd (omega arith)
row_right (c ∷ b ∷ e ∷ f ∷ x₀ ∷ x₁ ∷ x₂ ∷ x₃ ∷ y₀ ∷ y₁ ∷ y₂ ∷ y₃ ∷ z₀ ∷ []) h = absurd (omega arith)
row_right (c ∷ b ∷ e ∷ f ∷ x₀ ∷ x₁ ∷ x₂ ∷ x₃ ∷ y₀ ∷ y₁ ∷ y₂ ∷ y₃ ∷ z₀ ∷ z₁ ∷ []) h = absurd (omega arith)
row_right (c ∷ b ∷ e ∷ f ∷ x₀ ∷ x₁ ∷ x₂ ∷ x₃ ∷ y₀ ∷ y₁ ∷ y₂ ∷ y₃ ∷ z₀ ∷ z₁ ∷ z₂ ∷ []) h = absurd (omega arith)
row_right (c ∷ b ∷ e ∷ f ∷ x₀ ∷ x₁ ∷ x₂ ∷ x₃ ∷ y₀ ∷ y₁ ∷ y₂ ∷ y₃ ∷ z₀ ∷ z₁ ∷ z₂ ∷ z₃ ∷ []) h = rw (value_one c, value_one b) (by_code_lem c b e f x₀ x₁ x₂ x₃ y₀ y₁ y₂ y₃ z₀ z₁ z₂ z₃)
row_right (c ∷ b ∷ e ∷ f ∷ x₀ ∷ x₁ ∷ x₂ ∷ x₃ ∷ y₀ ∷ y₁ ∷ y₂ ∷ y₃ ∷ z₀ ∷ z₁ ∷ z₂ ∷ z₃ ∷ v ∷ rest) h = absurd (omega arith)

-- the row at byte a
pub alone : (rows : List ℕ) (a j left : ℕ) → j + left ≤ 16 → mended_row_t rows a j left ≡ mended_row_t (take 16 (drop a rows)) 0 j left
unfolding mended_row_t
alone rows a j zero h = refl
alone rows a j (suc left) h =
    let at : (k : ℕ) → k < 16 → get_or rows (a + k) 0 ≡ get_or (take 16 (drop a rows)) k 0 = λ k g. sym (get_or-take 16 (drop a rows) k 0 g ∙ get_or-drop a rows k 0) in
    let here : get_or rows a 0 ≡ get_or (take 16 (drop a rows)) 0 0 = ap (λ (n : ℕ). get_or rows n 0) (sym (add-zero a)) ∙ at 0 (omega arith) in
    let zeroth : get_or (take 16 (drop a rows)) (0 + j) 0 ≡ get_or (take 16 (drop a rows)) j 0 = ap (λ (n : ℕ). get_or (take 16 (drop a rows)) n 0) (zero-add j) in
    ap₂ (λ (v : ℕ) (l : List ℕ). v ∷ l) (rw (here, at 1 (omega arith), at j (omega arith), zeroth)) (alone rows a (j + 1) left (omega arith))

pub row_at : (rows : List ℕ) (a : ℕ) → a + 16 ≤ length rows → mended_row_t rows a 0 16 ≡ afters (row_pieces (take 16 (drop a rows)))
row_at rows a h = alone rows a 0 16 (omega arith) ∙ row_right (take 16 (drop a rows)) (length-take-le 16 (drop a rows) (omega (arith, length-drop a rows)))

-- ---- the rows that stay

-- the pieces of `left` rows from row i on
unfoldable pub kept_pieces : (rows : List ℕ) (i left : ℕ) → List Piece
kept_pieces rows i zero = []
kept_pieces rows i (suc left) = row_pieces (take 16 (drop (16 * i) rows)) ++ kept_pieces rows (i + 1) left

kept_afters : (rows : List ℕ) (i left : ℕ) → 16 * (i + left) ≤ length rows → afters (kept_pieces rows i left) ≡ mended_rows_t rows i left
unfolding kept_pieces mended_rows_t
kept_afters rows i zero h = unfold afters in refl
kept_afters rows i (suc left) h =
    afters_append (row_pieces (take 16 (drop (16 * i) rows))) (kept_pieces rows (i + 1) left)
    ∙ ap₂ (λ (p q : List ℕ). p ++ q) (sym (row_at rows (16 * i) (omega arith))) (kept_afters rows (i + 1) left (omega arith))

-- of `left` rows from row i on, `more` stay
pub record Split (rows : List ℕ) (i left depth : ℕ) (k : Kept) : Type 0 where
  pub more : ℕ
  pub last : k.rows ≡ i + more
  pub few : more ≤ left
  pub pieces : all_rows depth left (drop (16 * i) rows) ≡ kept_pieces rows i more ++ (piece (drop (16 * k.rows) rows) (close_rows k.scopes) ∷ [])

first_byte : (l : List ℕ) (n : ℕ) → value (take 1 (drop n l)) ≡ get_or l n 0
first_byte l n = go (drop n l) ∙ (get_or-drop n l 0 0 ∙ ap (λ (k : ℕ). get_or l k 0) (add-zero n))
  where
    go : (m : List ℕ) → value (take 1 m) ≡ get_or m 0 0
    go [] = unfold value in refl
    go (x ∷ m) = value_one x

next_row : (rows : List ℕ) (i : ℕ) → drop 16 (drop (16 * i) rows) ≡ drop (16 * (i + 1)) rows
next_row rows i = let e : 16 * i + 16 ≡ 16 * (i + 1) = omega arith in drop-drop 16 (16 * i) rows ∙ ap (λ (n : ℕ). drop n rows) e

-- by whether the row is the root's CLOSE
module _ (rows : List ℕ) (i left depth : ℕ) where
  abbrev Cut : (code : ℕ) (b : Bool) → List Piece
  Cut code b = row_pieces (take 16 (drop (16 * i) rows)) ++ (when b then piece (drop 16 (drop (16 * i) rows)) [] ∷ [] else all_rows (depth_after code depth) left (drop 16 (drop (16 * i) rows)))

  cut_rows : (code : ℕ) → value (take 1 (drop (16 * i) rows)) ≡ code → all_rows depth (suc left) (drop (16 * i) rows) ≡ Cut code (closes_root code depth)
  unfolding all_rows
  cut_rows code e = rw e

  root_cut : (code : ℕ) → Cut code true ≡ kept_pieces rows i 1 ++ (piece (drop (16 * (i + 1)) rows) (close_rows 0) ∷ [])
  unfolding kept_pieces when◌then◌else◌ close_rows
  root_cut code = rw (next_row rows i, append-nil)

  more_cut : (code : ℕ) (m : ℕ) (k : Kept) → all_rows (depth_after code depth) left (drop (16 * (i + 1)) rows) ≡ kept_pieces rows (i + 1) m ++ (piece (drop (16 * k.rows) rows) (close_rows k.scopes) ∷ [])
      → Cut code false ≡ kept_pieces rows i (suc m) ++ (piece (drop (16 * k.rows) rows) (close_rows k.scopes) ∷ [])
  unfolding kept_pieces when◌then◌else◌
  more_cut code m k e = rw (next_row rows i, e, append_assoc)

  by_root : (code : ℕ) (b : Bool) → Split rows (i + 1) left (depth_after code depth) (kept_t rows (i + 1) left (depth_after code depth)) → all_rows depth (suc left) (drop (16 * i) rows) ≡ Cut code b
      → Split rows i (suc left) depth (pick b (kept (i + 1) 0) (kept_t rows (i + 1) left (depth_after code depth)))
  unfolding pick
  by_root code true s e = record { more = 1; last = refl; few = omega arith; pieces = e ∙ root_cut code }
  by_root code false s e =
      record { more = suc s.more; last = omega (arith, s.last); few = omega (arith, s.few); pieces = e ∙ more_cut code s.more (kept_t rows (i + 1) left (depth_after code depth)) s.pieces }

pub split : (rows : List ℕ) (i left depth : ℕ) → Split rows i left depth (kept_t rows i left depth)
unfolding all_rows kept_t
split rows i zero depth = record { more = 0; last = sym (add-zero i); few = omega arith; pieces = unfold kept_pieces in refl }
split rows i (suc left) depth =
    let code = get_or rows (16 * i) 0 in
    by_root rows i left depth code (closes_root code depth) (split rows (i + 1) left (depth_after code depth)) (cut_rows rows i left depth code (first_byte rows (16 * i)))

-- ---- all rows

-- the pieces behind the header: those of the rows that stay, and what is cut off or added
pub rows_split : (rows : List ℕ) → (all_rows 0 (length rows / 16) rows ≡ kept_pieces rows 0 (kept_in rows).rows ++ (piece (drop (16 * (kept_in rows).rows) rows) (close_rows (kept_in rows).scopes) ∷ []))
    × (16 * (kept_in rows).rows ≤ length rows)
unfolding kept_in
rows_split rows =
    let s = split rows 0 (length rows / 16) 0 in
    let e : s.more ≡ (kept_t rows 0 (length rows / 16) 0).rows = omega (arith, s.last) in (
      subst (λ (m : ℕ). all_rows 0 (length rows / 16) rows ≡ kept_pieces rows 0 m ++ (piece (drop (16 * (kept_t rows 0 (length rows / 16) 0).rows) rows) (close_rows (kept_t rows 0 (length rows / 16) 0).scopes) ∷ [])) e s.pieces,
      omega (arith, s.few, e),
    )

pub body_right : (rows : List ℕ) → afters (all_rows 0 (length rows / 16) rows) ≡ mended_body_t rows (kept_in rows)
unfolding mended_body_t
body_right rows =
    let s = rows_split rows in
    ap afters s.0 ∙ (afters_append (kept_pieces rows 0 (kept_in rows).rows) _ ∙ ap₂ (λ (p q : List ℕ). p ++ q) (kept_afters rows 0 (kept_in rows).rows (omega (arith, s.1))) (one _))
  where
    one : (p : Piece) → afters (p ∷ []) ≡ p.after
    one p = unfold afters in append-nil p.after
