-- What the header of a form says, and how many rows there are.
use Rattle.std.specs.Prelude.{Bool, ◌&&◌, List, ℕ, ◌-◌, ◌/◌, eqb, ltb, length, get_or}
use Rattle.kit.specs.Pick.{pick}
use Rattle.parts.specs.PartsAt.{two}
use Rattle.form_bytes.specs.Begins.{begins_as}
use Rattle.row_bytes.specs.Parts.{start_of}

-- is it that of version 1?
abbrev pub has_header : List ℕ → Bool
has_header form = begins_as form 1 && eqb (get_or form 4 0) 0 && eqb (get_or form 5 0) 0

-- how many whole rows stand behind it, at most 65535
unfoldable pub rows_in : List ℕ → ℕ
rows_in form = let rows = (length form - 8) / 16 in pick (ltb rows 65535) rows 65535

-- are there just as many as it says?
unfoldable pub is_whole : List ℕ → Bool
is_whole form = eqb (two form 6) (rows_in form) && eqb (length form) (start_of (rows_in form))
