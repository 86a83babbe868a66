-- The mended rows as the code makes them: byte by byte, by the code of the row and the part that a byte belongs to.
use Rattle.std.specs.Prelude.{Bool, true, false, ◌&&◌, ◌||◌, List, [], ◌∷◌, ◌++◌, ℕ, zero, suc, ◌+◌, ◌*◌, ◌-◌, ◌/◌, ◌%◌, eqb, leb, ltb, length, get_or, replicate}
use Rattle.kit.specs.Pick.{pick}
use Rattle.rules.specs.Rows.{Close, encode_row}
use Rattle.mending.specs.Mend.{close_rows}
use Rattle.mend_form.specs.declared.Kept.{Kept}

-- the part that byte j of a row belongs to: code, b, e, x, y, z
unfoldable pub part_at : ℕ → ℕ
part_at j = pick (ltb j 2) j (pick (ltb j 4) 2 (2 + j / 4))

-- whether a part stays as it is, by the row's code: e of a builtin (19) and of an export (22) says something
unfoldable pub stays_t : (code b part : ℕ) → Bool
stays_t code b part =
    pick (eqb code 1) (eqb part 1 || (eqb part 5 || (eqb part 2 && (eqb b 19 || eqb b 22))))
    (pick (eqb code 2) (eqb part 1 || (eqb part 3 || eqb part 5))
    (pick (eqb code 4) (eqb part 3)
    (pick (eqb code 6) (eqb part 3 || eqb part 5)
    (pick (eqb code 7) (eqb part 1 || eqb part 3)
    (pick (eqb code 8) false
    (pick (eqb code 9) (eqb part 3) true))))))

-- byte j of a mended row
unfoldable pub byte_t : (code b j byte : ℕ) → ℕ
byte_t code b j byte =
    pick (eqb (part_at j) 0) byte
    (pick (eqb code 5) (pick (eqb j 2) (byte % 4) (pick (eqb j 3) 0 byte))
    (pick (stays_t code b (part_at j)) byte 0))

-- `left` bytes from byte j on, of the row at byte a
unfoldable pub mended_row_t : (rows : List ℕ) (a j left : ℕ) → List ℕ
mended_row_t rows a j zero = []
mended_row_t rows a j (suc left) = byte_t (get_or rows a 0) (get_or rows (a + 1) 0) j (get_or rows (a + j) 0) ∷ mended_row_t rows a (j + 1) left

-- `left` rows from row i on
unfoldable pub mended_rows_t : (rows : List ℕ) (i left : ℕ) → List ℕ
mended_rows_t rows i zero = []
mended_rows_t rows i (suc left) = mended_row_t rows (16 * i) 0 16 ++ mended_rows_t rows (i + 1) left

-- all rows of the mended form, of which these stay
unfoldable pub mended_body_t : (rows : List ℕ) → Kept → List ℕ
mended_body_t rows k = mended_rows_t rows 0 k.rows ++ close_rows k.scopes

-- row i of them, all zero where there is none
unfoldable pub row_in : (rows : List ℕ) → Kept → (i : ℕ) → List ℕ
row_in rows k i =
    pick (leb k.rows i) (pick (ltb (i - k.rows) k.scopes) (encode_row Close) (replicate 16 0))
    (pick (leb (length rows / 16) i) (replicate 16 0) (mended_row_t rows (16 * i) 0 16))

-- `left` of them from row i on
unfoldable pub from_t : (rows : List ℕ) → Kept → (i left : ℕ) → List ℕ
from_t rows k i zero = []
from_t rows k i (suc left) = row_in rows k i ++ from_t rows k (i + 1) left
