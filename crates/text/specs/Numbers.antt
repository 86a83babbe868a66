-- Numbers in a line of text. Each definition answers the number and what is left of the line behind it.
use Rattle.std.specs.Prelude.{Bool, ◌&&◌, List, [], ◌∷◌, ℕ, ◌+◌, ◌*◌, ◌-◌, eqb, ltb, leb}
use Rattle.kit.specs.Pick.{pick}
use Rattle.kit.specs.Out.{Out, ◌&◌}

-- is the byte a digit?
abbrev pub is_digit : ℕ → Bool
is_digit byte = leb 48 byte && leb byte 57

-- a digit more; a number that is too large for every part of a row stays 2^32
unfoldable pub with_digit : (number digit : ℕ) → ℕ
with_digit number digit = let longer = number * 10 + (digit - 48) in pick (ltb longer 4294967296) longer 4294967296

-- all digits that stand in front, more
unfoldable pub digits_from : List ℕ → (number : ℕ) → Out ℕ (List ℕ)
digits_from [] number = number & []
digits_from (byte ∷ bytes) number = pick (is_digit byte) (digits_from bytes (with_digit number byte)) (number & (byte ∷ bytes))

-- a number has at least one digit; where there is none, nothing is left
unfoldable pub number_in : List ℕ → Out ℕ (List ℕ)
number_in [] = 0 & []
number_in (byte ∷ bytes) = pick (is_digit byte) (digits_from (byte ∷ bytes) 0) (0 & [])

-- the number behind a mark
unfoldable pub number_behind : (mark : ℕ) → List ℕ → Out ℕ (List ℕ)
number_behind mark [] = 0 & []
number_behind mark (byte ∷ bytes) = pick (eqb byte mark) (number_in bytes) (0 & [])
