-- The number that a text spells.
use Rattle.std.specs.Prelude.{List, [], ◌∷◌, ℕ, ◌+◌, ◌*◌, ◌-◌, ltb, Option, Some, None}
use Rattle.kit.specs.Pick.{pick}

-- a number with a digit more, of those that are below 2^32
unfoldable pub with_digit : (number digit : ℕ) → Option ℕ
with_digit number digit =
    let longer = number * 10 + (digit - 48) in
    pick (ltb digit 48) None
    (pick (ltb 57 digit) None
    (pick (ltb longer 4294967296) (Some longer)
    None))

unfoldable pub parsed_then : Option ℕ → (ℕ → Option ℕ) → Option ℕ
parsed_then (Some number) f = f number
parsed_then None f = None

-- a number with all of these digits more
unfoldable pub with_digits : List ℕ → ℕ → Option ℕ
with_digits [] number = Some number
with_digits (digit ∷ digits) number = parsed_then (with_digit number digit) (with_digits digits)

-- no digits are no number
unfoldable pub number_in : List ℕ → Option ℕ
number_in [] = None
number_in (digit ∷ digits) = with_digits (digit ∷ digits) 0
