-- Which options are given: a set of them is a number, and an option one of its bits.
use Rattle.std.specs.Prelude.{Bool, false, ℕ, ◌/◌, ◌%◌, eqb}
use Rattle.kit.specs.Pick.{pick}

-- Is the option in the set? 0 is not an option.
unfoldable pub is_in : (set option : ℕ) → Bool
is_in set option = pick (eqb option 0) false (eqb (set / option % 2) 1)
