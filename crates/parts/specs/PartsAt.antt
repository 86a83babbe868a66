-- The six parts of a row, by the bytes in which they stand. That they are the rules' is in `rows/proofs/Laws`.
use Rattle.std.specs.Prelude.{List, ℕ, ◌+◌, ◌*◌, ◌/◌, leb, length, get_or}
use Rattle.kit.specs.Pick.{pick}
use Rattle.parts.specs.declared.Parts.{Parts}

-- ---- numbers in bytes, the lower byte first

-- the number in the two bytes from a
abbrev pub two : List ℕ → ℕ → ℕ
two l a = get_or l a 0 + get_or l (a + 1) 0 * 256

-- the number in the four bytes from a
abbrev pub four : List ℕ → ℕ → ℕ
four l a = get_or l a 0 + get_or l (a + 1) 0 * 256 + get_or l (a + 2) 0 * 65536 + get_or l (a + 3) 0 * 16777216

-- ---- six parts together

-- six parts by their numbers
abbrev pub parts : (code b e x y z : ℕ) → Parts
parts code b e x y z = record { code = code; b = b; e = e; x = x; y = y; z = z }

-- those of the row at i, which is there
unfoldable pub parts_in : List ℕ → (i : ℕ) → Parts
parts_in l i =
    let a = 16 * i in
    parts (get_or l a 0) (get_or l (a + 1) 0) (two l (a + 2)) (four l (a + 4)) (four l (a + 8)) (four l (a + 12))

-- those of the row at i, all zero where there is none
unfoldable pub parts_at : List ℕ → (i : ℕ) → Parts
parts_at l i = pick (leb (length l / 16) i) (parts 0 0 0 0 0 0) (parts_in l i)
