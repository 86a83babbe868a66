-- The list as the code writes it: entries of fields by their rows, sixteen bytes each.
use Rattle.std.specs.Prelude.{Bool, false, List, [], ◌++◌, ℕ, zero, suc, ◌+◌, ◌-◌, ◌*◌, ◌/◌, eqb, leb, ltb, length, take, drop}
use Rattle.kit.specs.Pick.{pick}
use Rattle.rules.specs.Rows.{bytes}
use Rattle.parts.specs.PartsAt.{parts_at}
use Rattle.matched.specs.Alike.{field_end}

-- ---- how many bytes

-- an entry whose rows are carried, or not
abbrev pub entry_size : (rows : ℕ) (carried : Bool) → ℕ
entry_size rows carried = 20 + pick carried (16 * rows) 0

-- the fields from row i up to `to`, this many at most
unfoldable pub size_t : List ℕ → (carried : Bool) (to i most : ℕ) → ℕ
size_t l carried to i zero = 0
size_t l carried to i (suc most) =
    pick (ltb i to) (pick (leb (field_end l i) i) 0 (entry_size (field_end l i - i) carried + size_t l carried to (field_end l i) most)) 0

-- ---- their bytes

-- two numbers of four bytes each
unfoldable pub two_t : (v w : ℕ) → List ℕ
two_t v w = bytes 4 v ++ bytes 4 w

-- the five numbers of an entry
unfoldable pub entry_t : (kind i m j n : ℕ) → List ℕ
entry_t kind i m j n = bytes 4 kind ++ (two_t i m ++ two_t j n)

-- the bytes that `F` says of each field, from row i up to `to`, this many fields at most
unfoldable pub fields_t : (F : (i end : ℕ) → List ℕ) → List ℕ → (to i most : ℕ) → List ℕ
fields_t F l to i zero = []
fields_t F l to i (suc most) = pick (ltb i to) (pick (leb (field_end l i) i) [] (F i (field_end l i) ++ fields_t F l to (field_end l i) most)) []

-- a field of the left, which is missing in the right before row j
unfoldable pub left_entry : (j i end : ℕ) → List ℕ
left_entry j i end = entry_t 2 i (end - i) j 0

-- an entry for each field of the left that goes
abbrev pub left_t : List ℕ → (j to i : ℕ) → List ℕ
left_t l j to i = fields_t (left_entry j) l to i (length l / 16)

-- the bytes of the rows from j up to `end`
unfoldable pub rows_held : List ℕ → (j end : ℕ) → List ℕ
rows_held l j end = take (16 * end - 16 * j) (drop (16 * j) l)

-- a field of the right, which is missing in the left before row i
unfoldable pub right_entry : List ℕ → (i j end : ℕ) → List ℕ
right_entry r i j end = entry_t 3 i 0 j (end - j) ++ rows_held r j end

-- an entry for each field of the right that comes
abbrev pub right_t : List ℕ → (i to j : ℕ) → List ℕ
right_t r i to j = fields_t (right_entry r i) r to j (length r / 16)

-- ---- a lone field

-- whether from this row up to that there is one field and no more
unfoldable pub lone_t : List ℕ → (from to : ℕ) → Bool
lone_t l from to = pick (leb to from) false (eqb (field_end l from) to)

-- b of the row at i: in a FIELD its code
abbrev pub code_t : List ℕ → (i : ℕ) → ℕ
code_t l i = (parts_at l i).b

-- is a lone field of one code left of each?
unfoldable pub pair_t : (l r : List ℕ) (from end other : ℕ) → Bool
pair_t l r from end other =
    pick (lone_t l from end) (pick (lone_t r from other) (eqb (code_t l from) (code_t r from)) false) false
