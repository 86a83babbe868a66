-- The code of a row in a run of bytes.
use Rattle.std.specs.Prelude.{List, ℕ, ◌*◌, ◌/◌, ltb, length, get_or}
use Rattle.kit.specs.Pick.{pick}

-- the code of the row at i, 0 where there is none
unfoldable pub code_at : (bytes : List ℕ) (i : ℕ) → ℕ
code_at bytes i = pick (ltb i (length bytes / 16)) (get_or bytes (16 * i) 0) 0
