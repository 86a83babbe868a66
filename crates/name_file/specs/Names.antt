-- What the lines of a file of names say. A line is read byte by byte; `at` tells where it is.
use Rattle.std.specs.Prelude.{Bool, true, false, not, ◌&&◌, ◌||◌, List, [], ◌∷◌, ℕ, ◌+◌, ◌*◌, ◌-◌, eqb, ltb, leb, Option, Some, None}
use Rattle.kit.specs.Pick.{pick}
use Rattle.name_file.specs.declared.Line.{Line}
use Rattle.name_file.specs.declared.Word.{Word}
use Rattle.name_file.specs.declared.At.{At}
use Rattle.name_file.specs.declared.At.TheVariants.{Start, Number, Blank, Letters, Return, Wrong}

-- ---- a line

-- a line of which no byte is read
abbrev pub new_line : Line
new_line = record { at = Start; exported = false; number = 0; from = 0; to = 0 }

-- the same line at another part
abbrev pub turned : Line → (at : At) → Line
turned line at = record { at = at; exported = line.exported; number = line.number; from = line.from; to = line.to }

-- is the byte a digit?
abbrev pub is_digit : ℕ → Bool
is_digit byte = leb 48 byte && leb byte 57

-- is the byte one that a word may have: printable, and no space?
abbrev pub is_word_byte : ℕ → Bool
is_word_byte byte = ltb 32 byte && ltb byte 127

-- a digit more; a number that is too large stays so
unfoldable pub longer : (number byte : ℕ) → ℕ
longer number byte = pick (ltb number 4294967296) (number * 10 + (byte - 48)) number

-- the line with a digit more of its number
unfoldable pub with_digit : Line → (byte : ℕ) → Line
with_digit line byte =
    pick
    (is_digit byte)
    (record { at = Number; exported = line.exported; number = longer line.number byte; from = 0; to = 0 })
    (turned line Wrong)

-- at the start a # may stand, once, and then a digit must
unfoldable pub at_start : Line → (byte : ℕ) → Line
at_start line byte =
    pick (eqb byte 13) (turned line Return) (pick (eqb byte 35 && not line.exported) (record { at = Start; exported = true; number = 0; from = 0; to = 0 }) (with_digit line byte))

-- one blank ends the number, which is at most 4294967295
unfoldable pub in_number : Line → (byte : ℕ) → Line
in_number line byte = pick (eqb byte 32) (pick (ltb line.number 4294967296) (turned line Blank) (turned line Wrong)) (with_digit line byte)

-- a byte of the word, which begins at `from` and goes on to `to`
unfoldable pub in_word : Line → (byte from to : ℕ) → Line
in_word line byte from to =
    pick (is_word_byte byte) (record { at = Letters; exported = line.exported; number = line.number; from = from; to = to }) (turned line Wrong)

-- the line with one byte more at its word, which a CR ends
unfoldable pub behind_word : Line → (byte to : ℕ) → Line
behind_word line byte to = pick (eqb byte 13) (turned line Return) (in_word line byte line.from to)

-- the line with its next byte, which is the one at i of the file
unfoldable pub byte_at : At → Line → (byte i to : ℕ) → Line
byte_at Start line byte i to = at_start line byte
byte_at Number line byte i to = in_number line byte
byte_at Blank line byte i to = in_word line byte i to
byte_at Letters line byte i to = behind_word line byte to
byte_at Return line byte i to = turned line Wrong
byte_at Wrong line byte i to = turned line Wrong

unfoldable pub with_byte : Line → (byte i to : ℕ) → Line
with_byte line byte i to = byte_at line.at line byte i to

-- a line that ends here has a word, or says nothing
unfoldable pub sound_at : At → Line → Bool
sound_at Start line = not line.exported
sound_at Number line = false
sound_at Blank line = false
sound_at Letters line = true
sound_at Return line = ltb line.from line.to || not line.exported
sound_at Wrong line = false

unfoldable pub is_sound : Line → Bool
is_sound line = sound_at line.at line

-- it has a word, and this number
abbrev pub is_for : Line → (number : ℕ) → Bool
is_for line number = ltb line.from line.to && eqb line.number number

-- it has the word for a name, or for an export name
unfoldable pub is_of : Line → (number : ℕ) → (exported : Bool) → Bool
is_of line number exported = pick exported (is_for line number && line.exported) (is_for line number && not line.exported)

-- the word of a line, by the bytes where it begins and ends
abbrev pub word_in : Line → Word
word_in line = record { from = line.from; to = line.to }

-- ---- the file, of which these bytes are left, from the one at i on

unfoldable pub find_from : List ℕ → (i : ℕ) → Line → (number : ℕ) → (exported : Bool) → Option Word
find_from [] i line number exported = pick (is_of line number exported) (Some (word_in line)) None
find_from (byte ∷ bytes) i line number exported =
    pick
    (eqb byte 10)
    (pick (is_of line number exported) (Some (word_in line)) (find_from bytes (i + 1) new_line number exported))
    (find_from bytes (i + 1) (with_byte line byte i (i + 1)) number exported)

-- one line more, as far as they are counted
unfoldable pub one_more : (count : ℕ) → ℕ
one_more count = pick (ltb count 4294967295) (count + 1) count

unfoldable pub wrong_from : List ℕ → (i : ℕ) → Line → (count : ℕ) → Option ℕ
wrong_from [] i line count = pick (is_sound line) None (Some count)
wrong_from (byte ∷ bytes) i line count =
    pick
    (eqb byte 10)
    (pick (is_sound line) (wrong_from bytes (i + 1) new_line (one_more count)) (Some count))
    (wrong_from bytes (i + 1) (with_byte line byte i (i + 1)) count)

-- the first word that the file has for a name, or for an export name
unfoldable pub word_for : List ℕ → (number : ℕ) → (exported : Bool) → Option Word
word_for names number exported = find_from names 0 new_line number exported

-- the number of the first line that is wrong, counted from 1
unfoldable pub wrong_line : List ℕ → Option ℕ
wrong_line names = wrong_from names 0 new_line 1
