-- The parts of the rows of a form, by the bytes in which they stand. Any bytes will do: what lies past the end is 0.
use Rattle.std.specs.Prelude.{List, ℕ, ◌+◌, ◌*◌, get_or}
use Rattle.parts.specs.PartsAt.{two, four}

-- a row has sixteen bytes, and a header of eight stands before them

-- the byte at which a row begins, behind a header of eight
abbrev pub start_of : ℕ → ℕ
start_of row = 8 + 16 * row

-- the code of a row: which of the nine kinds it is
unfoldable pub code_at : (form : List ℕ) (row : ℕ) → ℕ
code_at form row = get_or form (start_of row) 0

-- part b: a field code, a space or the kind of a scope
unfoldable pub b_at : (form : List ℕ) (row : ℕ) → ℕ
b_at form row = get_or form (start_of row + 1) 0

-- part e: a builtin, or whether operands are numbers or names
unfoldable pub e_at : (form : List ℕ) (row : ℕ) → ℕ
e_at form row = two form (start_of row + 2)

-- part x: a name or the first operand
unfoldable pub x_at : (form : List ℕ) (row : ℕ) → ℕ
x_at form row = four form (start_of row + 4)

-- part y: how many PATHs follow, or the second operand
unfoldable pub y_at : (form : List ℕ) (row : ℕ) → ℕ
y_at form row = four form (start_of row + 8)

-- part z: the place
unfoldable pub z_at : (form : List ℕ) (row : ℕ) → ℕ
z_at form row = four form (start_of row + 12)
