-- Which bytes are text: no control byte but a tab or the end of a line. A form has others in its header.
use Rattle.std.specs.Prelude.{Bool, true, false, ◌||◌, List, [], ◌∷◌, ℕ, eqb, ltb}
use Rattle.kit.specs.Pick.{pick}

-- a byte that text has: it is no control byte but a tab or the end of a line
abbrev pub is_text_byte : ℕ → Bool
is_text_byte byte = ltb 31 byte || (eqb byte 9 || (eqb byte 10 || eqb byte 13))

-- are all bytes those of a text?
unfoldable pub is_text : List ℕ → Bool
is_text [] = true
is_text (byte ∷ bytes) = pick (is_text_byte byte) (is_text bytes) false
