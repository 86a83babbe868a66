-- Rows one after another, as a list of their parts.
use Rattle.std.specs.Prelude.{List, [], ◌∷◌, ℕ, zero, suc, ◌+◌, ◌-◌, ◌/◌, length}
use Rattle.parts.specs.PartsAt.{parts_at}
use Rattle.parts.specs.declared.Parts.{Parts}

-- this many rows from row i on
unfoldable pub rows_from : List ℕ → (i count : ℕ) → List Parts
rows_from l i zero = []
rows_from l i (suc count) = parts_at l i ∷ rows_from l (i + 1) count

-- those from row i on to the last
unfoldable pub rows_at : List ℕ → (i : ℕ) → List Parts
rows_at l i = rows_from l i (length l / 16 - i)
