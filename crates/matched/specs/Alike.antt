-- The root's fields of two forms as the code finds them alike: rows are counted from the OPEN on, sixteen bytes each.
use Rattle.std.specs.Prelude.{Bool, true, false, ◌&&◌, ◌||◌, List, ℕ, zero, suc, ◌+◌, ◌-◌, ◌/◌, eqb, leb, ltb, length}
use Rattle.kit.specs.Pick.{pick}
use Rattle.parts.specs.PartsAt.{parts_at}
use Rattle.comparing.specs.Compare.{Choice}
use Rattle.matched.specs.Counted.{same_t}
use Rattle.matched.specs.declared.fields.Rest.{Rest}

-- ---- where a field ends

-- the code of the row at i
abbrev pub code_of : List ℕ → ℕ → ℕ
code_of l i = (parts_at l i).code

-- does a row of this code stand behind a field: a FIELD or a CLOSE, where no inner scope is open?
unfoldable pub is_behind : (depth code : ℕ) → Bool
is_behind depth code = eqb depth 0 && (eqb code 1 || eqb code 8)

-- how many inner scopes are open behind it
unfoldable pub depth_behind : (depth code : ℕ) → ℕ
depth_behind depth code = pick (eqb code 7) (depth + 1) (pick (eqb code 8) (depth - 1) depth)

-- from row j on, this many rows
unfoldable pub end_t : List ℕ → (j depth left : ℕ) → ℕ
end_t l j depth zero = j
end_t l j depth (suc left) = pick (is_behind depth (code_of l j)) j (end_t l (j + 1) (depth_behind depth (code_of l j)) left)

-- the row at which the field ends whose FIELD is row i
abbrev pub end_behind : List ℕ → (i : ℕ) → ℕ
end_behind l i = end_t l (i + 1) 0 (length l / 16 - (i + 1))

-- the row behind the field that begins at i
unfoldable pub field_end : List ℕ → (i : ℕ) → ℕ
field_end l i = pick (leb (length l / 16) i) i (end_behind l i)

-- ---- from the front

-- are this many rows from i on the same?
unfoldable pub same_run_t : Choice → (l r : List ℕ) (i left : ℕ) → Bool
same_run_t c l r i zero = true
same_run_t c l r i (suc left) = pick (same_t c (parts_at l i) (parts_at r i)) (same_run_t c l r (i + 1) left) false

-- is the field that begins at i the same?
unfoldable pub same_field_t : Choice → (l r : List ℕ) (i : ℕ) → Bool
same_field_t c l r i = pick (eqb (end_behind r i) (end_behind l i)) (same_run_t c l r i (end_behind l i - i)) false

-- the row behind the field that begins at i, if both have one there and it is the same; else i
unfoldable pub next_t : Choice → (l r : List ℕ) (i : ℕ) → ℕ
next_t c l r i =
    pick (leb (length l / 16) (i + 1)) i (pick (leb (length r / 16) (i + 1)) i (pick (same_field_t c l r i) (end_behind l i) i))

-- field by field from row i on, this many at most
unfoldable pub front_t : Choice → (l r : List ℕ) (i most : ℕ) → ℕ
front_t c l r i zero = i
front_t c l r i (suc most) = pick (ltb i (length l / 16)) (pick (leb (next_t c l r i) i) i (front_t c l r (next_t c l r i) most)) i

-- ---- from the back

-- is one more row before the CLOSE the same, behind `same` of them, and in the right not before `from`?
unfoldable pub more_t : Choice → (l r : List ℕ) (from same : ℕ) → Bool
more_t c l r from same =
    pick (leb (length r / 16) (from + 1 + same)) false (same_t c (parts_at l (length l / 16 - 2 - same)) (parts_at r (length r / 16 - 2 - same)))

-- `same` of them are, and this many more stand in the left behind `from`
unfoldable pub back_t : Choice → (l r : List ℕ) (from same left : ℕ) → ℕ
back_t c l r from same zero = same
back_t c l r from same (suc left) = pick (more_t c l r from same) (back_t c l r from (same + 1) left) same

-- the first field from row i on with this many rows or fewer up to the CLOSE
unfoldable pub tail_t : List ℕ → (same i most : ℕ) → ℕ
tail_t l same i zero = i
tail_t l same i (suc most) = pick (ltb (i + 1 + same) (length l / 16)) (tail_t l same (end_behind l i) most) i

-- ---- what is left

-- what is left of both forms: the rows from `from` up to `left` and `right`
abbrev pub rest_from : (from left right : ℕ) → Rest
rest_from from left right = record { from = from; left = left; right = right }

unfoldable pub front_of : Choice → (l r : List ℕ) → ℕ
front_of c l r = front_t c l r 1 (length l / 16)

unfoldable pub end_of : Choice → (l r : List ℕ) → ℕ
end_of c l r =
    let from = front_of c l r in
    tail_t l (back_t c l r from 0 (length l / 16 - (from + 1))) from (length l / 16)

-- what is left of both when the fields that are the same from the front, then from the back, are taken away
unfoldable pub middle_t : Choice → (l r : List ℕ) → Rest
middle_t c l r =
    pick (ltb (length l / 16) 2) (rest_from 1 1 1)
    (pick (ltb (length r / 16) 2) (rest_from 1 1 1)
    (rest_from (front_of c l r) (end_of c l r) (end_of c l r + length r / 16 - length l / 16)))
