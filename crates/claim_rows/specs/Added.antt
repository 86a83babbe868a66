-- Which fields of a claim are added, by their rows.
use Rattle.std.specs.Prelude.{Bool, true, false, List, [], ◌∷◌, ℕ, eqb, leb}
use Rattle.kit.specs.Pick.{pick}
use Rattle.parts.specs.declared.Parts.{Parts}

-- has one of the DECLs that come first a name that no input has?
unfoldable pub any_fresh : List Parts → Bool
any_fresh [] = false
any_fresh (p ∷ ps) = pick (eqb p.code 2) (pick (leb 2147483648 p.x) true (any_fresh ps)) false

-- is the field of a row of this code added? A FIELD's DECLs tell, which come first of the rows behind it; a CLOSE is of none; others are as
-- the row before.
unfoldable pub is_added_t : (before : Bool) (code : ℕ) → List Parts → Bool
is_added_t before code ps = pick (eqb code 1) (any_fresh ps) (pick (eqb code 8) false before)
