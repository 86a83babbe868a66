-- The lines of a text, and what a line is: a row, a comment, blank, or wrong.
use Rattle.std.specs.Prelude.{Bool, true, false, ◌||◌, List, [], ◌∷◌, ℕ, suc, eqb, ltb, get_or, Option, Some, None, Result, Ok, Err}
use Rattle.kit.specs.Pick.{pick}
use Rattle.kit.specs.Out.{Out, ◌&◌}
use Rattle.parts.specs.PartsAt.{parts}
use Rattle.text.specs.Numbers.{number_behind}
use Rattle.text.specs.declared.lines.Why.{Why}
use Rattle.text.specs.declared.lines.Why.TheVariants.{NoRow, Second, LargeCode, LargeB, LargeE, LargeX, LargeY, LargeZ}
use Rattle.parts.specs.declared.Parts.{Parts}

-- ---- the lines, each with the byte that ends it

-- a byte before the first line
unfoldable pub on_first : ℕ → List (List ℕ) → List (List ℕ)
on_first byte [] = (byte ∷ []) ∷ []
on_first byte (line ∷ lines) = (byte ∷ line) ∷ lines

unfoldable pub lines_of : List ℕ → List (List ℕ)
lines_of [] = []
lines_of (byte ∷ bytes) = pick (eqb byte 10) ((byte ∷ []) ∷ lines_of bytes) (on_first byte (lines_of bytes))

-- how many bytes the first line has
unfoldable pub line_length : List ℕ → ℕ
line_length [] = 0
line_length (byte ∷ bytes) = pick (eqb byte 10) 1 (suc (line_length bytes))

-- ---- blank lines and comments

-- a blank, a tab, or of the end of a line
abbrev pub is_blank_byte : ℕ → Bool
is_blank_byte byte = ((eqb byte 32 || eqb byte 9) || eqb byte 10) || eqb byte 13

-- has the line nothing but blanks?
unfoldable pub is_blank : List ℕ → Bool
is_blank [] = true
is_blank (byte ∷ bytes) = pick (is_blank_byte byte) (is_blank bytes) false

-- it begins with #
unfoldable pub is_comment : List ℕ → Bool
is_comment line = eqb (get_or line 0 0) 35

-- ---- rows

-- nothing, or something behind a blank
unfoldable pub is_apart : List ℕ → Bool
is_apart [] = true
is_apart (byte ∷ bytes) = is_blank_byte byte

-- a bracket that closes, and what is apart from it
unfoldable pub is_closed : List ℕ → Bool
is_closed [] = false
is_closed (byte ∷ bytes) = pick (eqb byte 93) (is_apart bytes) false

-- does a bracket open?
unfoldable pub has_bracket : List ℕ → Bool
has_bracket [] = false
has_bracket (byte ∷ bytes) = pick (eqb byte 91) true (has_bracket bytes)

-- six numbers, if each fits its part
unfoldable pub sized : (code b e x y z : ℕ) → Result (Option Parts) Why
sized code b e x y z =
    pick (ltb 255 code) (Err LargeCode)
    (pick (ltb 255 b) (Err LargeB)
    (pick (ltb 65535 e) (Err LargeE)
    (pick (ltb 4294967295 x) (Err LargeX)
    (pick (ltb 4294967295 y) (Err LargeY)
    (pick (ltb 4294967295 z) (Err LargeZ)
    (Ok (Some (parts code b e x y z))))))))

-- what is made of a number and of what is left behind it
unfoldable pub number_then : Out ℕ (List ℕ) → (ℕ → List ℕ → Result (Option Parts) Why) → Result (Option Parts) Why
number_then (number & left) f = f number left

-- `[`, six numbers with a blank between them, `]`, and a comment in which no bracket opens
unfoldable pub row_in : List ℕ → Result (Option Parts) Why
row_in line =
    number_then (number_behind 91 line) (λ code left.
    number_then (number_behind 32 left) (λ b left.
    number_then (number_behind 32 left) (λ e left.
    number_then (number_behind 32 left) (λ x left.
    number_then (number_behind 32 left) (λ y left.
    number_then (number_behind 32 left) (λ z left.
    pick (is_closed left) (pick (has_bracket left) (Err Second) (sized code b e x y z)) (Err NoRow)))))))

-- ---- a line

-- what a line is: nothing where it is blank or a comment, else a row or what is wrong with it
unfoldable pub line_of : List ℕ → Result (Option Parts) Why
line_of line = pick (is_blank line) (Ok None) (pick (is_comment line) (Ok None) (row_in line))
