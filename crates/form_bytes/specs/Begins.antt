-- How a form begins.
use Rattle.std.specs.Prelude.{Bool, ◌&&◌, List, ℕ, eqb, get_or}

-- are the first four bytes WNT and this version?
abbrev pub begins_as : List ℕ → (version : ℕ) → Bool
begins_as form version = eqb (get_or form 0 0) 87 && eqb (get_or form 1 0) 78 && eqb (get_or form 2 0) 84 && eqb (get_or form 3 0) version
