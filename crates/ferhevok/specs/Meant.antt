-- Which declaration a name of a member means, as one number.
use Rattle.std.specs.Prelude.{List, ℕ, ◌+◌, ltb, Option, Some, None}
use Rattle.kit.specs.Pick.{pick}
use Rattle.meant.specs.Part.{meant_t}
use Rattle.meant.specs.declared.Declared.TheVariants.{Member, Prelude}
use Rattle.meant.specs.declared.Declared.{Declared}

-- 1 for the member and 2 for the prelude, times 2^32, plus the DECL's row there; 0 for nothing
abbrev pub packed_declared : Option Declared → ℕ
packed_declared (Some (Member row)) = 4294967296 + row
packed_declared (Some (Prelude row)) = 8589934592 + row
packed_declared None = 0

-- no form has rows behind row 65535
unfoldable pub meant_row : (prelude member : List ℕ) (row : ℕ) → Option Declared
meant_row prelude member row = pick (ltb 65535 row) None (meant_t prelude member row)
