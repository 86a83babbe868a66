-- The ends of fields as the code notes them: over the rows, the last first.
use Rattle.std.specs.Prelude.{List, ℕ, zero, suc, ◌+◌, ◌-◌, ◌/◌, ◌%◌, eqb, leb, length, get_or, set, replicate}
use Rattle.kit.specs.Pick.{pick}
use Rattle.kit.specs.Out.{Out, ◌&◌}
use Rattle.rules.specs.Versions.{version1}
use Rattle.rows.specs.RowAt.{code_at}

-- the ends that are noted, and for each depth the next FIELD or CLOSE
abbrev pub Noted : Type 0
Noted = Out (List ℕ) (List ℕ)

-- how many scopes are open before a row of that code, where `depth` are after it and `most` may be
unfoldable pub depth_before : (most code depth : ℕ) → ℕ
depth_before most code depth =
    pick (eqb code 8) (pick (leb most depth) depth (depth + 1))
    (pick (eqb code 7) (pick (eqb depth 0) depth (depth - 1)) depth)

-- what row i changes: a FIELD gets its end, and FIELD and CLOSE are the next bound of their depth
unfoldable pub end_at_t : (code i depth : ℕ) (ends bounds : List ℕ) → Noted
end_at_t code i depth ends bounds =
    pick (leb (length bounds) depth) (ends & bounds)
    (pick (eqb code 8) (ends & set bounds depth i)
    (pick (eqb code 1)
    (pick (leb (length ends) i) (ends & bounds) (set ends i (get_or bounds depth 0 % 4294967296) & set bounds depth i))
    (ends & bounds)))

-- goes on with what is noted
unfoldable pub with_noted : Noted → (List ℕ → List ℕ → Noted) → Noted
with_noted (ends & bounds) f = f ends bounds

-- what the first `left` rows note, the last of them first
unfoldable pub ends_back_t : (most : ℕ) (rows : List ℕ) (left depth : ℕ) (ends bounds : List ℕ) → Noted
ends_back_t most rows zero depth ends bounds = ends & bounds
ends_back_t most rows (suc i) depth ends bounds =
    let d = depth_before most (code_at rows i) depth in
    with_noted (end_at_t (code_at rows i) i d ends bounds) (ends_back_t most rows i d)

-- the ends alone
unfoldable pub ends_in : Noted → List ℕ
ends_in (ends & bounds) = ends

-- the end of each field, where this many scopes may be open
unfoldable pub ends_to : (most : ℕ) (rows ends : List ℕ) → List ℕ
ends_to most rows ends = ends_in (ends_back_t most rows (length rows / 16) 0 ends (replicate (most + 1) 0))

-- the end of each field in a form of version 1
unfoldable pub ends_t : (rows ends : List ℕ) → List ℕ
ends_t rows ends = ends_to version1.scopes rows ends
