-- Rows of allowed fields, a byte for each field code.
use Rattle.std.specs.Prelude.{◌≡◌, Bool, false, List, [], ℕ, eqb, ltb, get_or}
use Rattle.kit.specs.Pick.{pick}
use Rattle.rules.specs.Shapes.{allowed}

-- is there a `1`?
unfoldable pub in_rows : List (List ℕ) → (kind code : ℕ) → Bool
in_rows rows kind code = pick (ltb kind 4) (pick (ltb code 26) (eqb (get_or (get_or rows kind []) code 0) 49) false) false

-- are they the rules'?
unfoldable pub Allows : List (List ℕ) → Type 0
Allows rows = (kind code : ℕ) → in_rows rows kind code ≡ allowed kind code
