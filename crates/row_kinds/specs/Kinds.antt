-- Single rows of a form, and how rows are counted.
use Rattle.std.specs.Prelude.{Bool, ◌&&◌, ◌||◌, List, ℕ, ◌+◌, eqb, ltb}
use Rattle.kit.specs.Pick.{pick}
use Rattle.rules.specs.Readings.{is_fresh}
use Rattle.row_bytes.specs.Parts.{code_at, x_at}

-- an inserted DECL
unfoldable pub is_inserted : (form : List ℕ) (row : ℕ) → Bool
is_inserted form row = eqb (code_at form row) 2 && is_fresh (x_at form row)

-- a REF or an OUTER
unfoldable pub is_reference : (form : List ℕ) (row : ℕ) → Bool
is_reference form row = eqb (code_at form row) 3 || eqb (code_at form row) 5

-- the row behind a row; the last that a row number can say is its own
unfoldable pub next_of : ℕ → ℕ
next_of row = pick (ltb row 65535) (row + 1) row

-- one more, if there is one more to count and a number of four bytes can say it
unfoldable pub count_on : (count : ℕ) (more : Bool) → ℕ
count_on count more = pick (eqb count 4294967295) count (pick more (count + 1) count)
