-- The rows of a spoilt form that stay, as the code counts them.
use Rattle.std.specs.Prelude.{List, ℕ, zero, suc, ◌+◌, ◌*◌, ◌/◌, length, get_or}
use Rattle.kit.specs.Pick.{pick}
use Rattle.mending.specs.Mend.{closes_root, depth_after}
use Rattle.mend_form.specs.declared.Kept.{Kept}

-- this many rows, and this many scopes that are open behind them
abbrev pub kept : (rows scopes : ℕ) → Kept
kept rows scopes = record { rows = rows; scopes = scopes }

-- `left` rows from row i on, before which this many scopes are open
unfoldable pub kept_t : (rows : List ℕ) (i left depth : ℕ) → Kept
kept_t rows i zero depth = kept i depth
kept_t rows i (suc left) depth =
    let code = get_or rows (16 * i) 0 in
    pick (closes_root code depth) (kept (i + 1) 0) (kept_t rows (i + 1) left (depth_after code depth))

-- how many rows stay, and how many scopes are then open: OPEN and CLOSE codes are counted up to the root's CLOSE
unfoldable pub kept_in : (rows : List ℕ) → Kept
kept_in rows = kept_t rows 0 (length rows / 16) 0
