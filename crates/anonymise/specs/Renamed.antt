-- Rows as the code takes them, with other names, and written one behind the other.
use Rattle.std.specs.Prelude.{List, [], ◌++◌, ℕ, zero, suc, ◌+◌, ◌/◌, length}
use Rattle.kit.specs.Out.{Out, ◌&◌}
use Rattle.rules.specs.Versions.{top_name}
use Rattle.rules.specs.Answer.{rows_of}
use Rattle.renaming.specs.Renaming.{renamed, name_in, names_of, firsts, place_of}
use Rattle.rows.specs.RowAt.{row_to}
use Rattle.rows.specs.declared.row.Index.{Index}
use Rattle.rows.specs.declared.row.Index.TheVariants.{Number, Name}
use Rattle.rows.specs.declared.row.Row.{Row}
use Rattle.rows.specs.declared.row.Row.TheVariants.{Field, Decl, Ref, Path, Outer, Case, Open, Close, Export, Broken}
use Rattle.put.specs.Put.{put_row}

-- the row of an input
unfoldable pub input_row : (bytes : List ℕ) (i : ℕ) → Row
unfolding row_to
input_row bytes i = row_to top_name bytes i

-- ---- the names of a row

-- the name of an operand, where it is one
abbrev pub index_names_t : Index → List ℕ
index_names_t (Number n) = []
index_names_t (Name n) = name_in n

-- the names of a row, in the order of its parts
unfoldable pub row_names_t : Row → List ℕ
row_names_t (Field code builtin z) = []
row_names_t (Decl space name z) = name_in name
row_names_t (Ref space at paths z) = index_names_t at
row_names_t (Path name) = []
row_names_t (Outer space up at z) = index_names_t up ++ index_names_t at
row_names_t (Case name z) = name_in name
row_names_t (Open kind name) = name_in name
row_names_t Close = []
row_names_t (Export name) = []
row_names_t Broken = []

-- the names of all rows, each once and where it first stands
unfoldable pub key_of : (rows : List ℕ) → List ℕ
key_of rows = firsts [] (names_of (rows_of top_name (length rows / 16) rows))

-- ---- a row whose names go through `g`

-- an operand with its number for its name
abbrev pub renamed_index_t : (g : ℕ → ℕ) → Index → Index
renamed_index_t g (Number n) = Number n
renamed_index_t g (Name n) = Name (g n)

-- a row with numbers for its names
unfoldable pub renamed_row_t : (g : ℕ → ℕ) → Row → Row
renamed_row_t g (Field code builtin z) = Field code builtin z
renamed_row_t g (Decl space name z) = Decl space (g name) z
renamed_row_t g (Ref space at paths z) = Ref space (renamed_index_t g at) paths z
renamed_row_t g (Path name) = Path name
renamed_row_t g (Outer space up at z) = Outer space (renamed_index_t g up) (renamed_index_t g at) z
renamed_row_t g (Case name z) = Case (g name) z
renamed_row_t g (Open kind name) = Open kind (g name)
renamed_row_t g Close = Close
renamed_row_t g (Export name) = Export name
renamed_row_t g Broken = Broken

-- what a write leaves of the output
unfoldable pub left_by : Out ℕ (List ℕ) → List ℕ
left_by (to & out) = out

-- the row at i to its own place: a name becomes its place in the key
unfoldable pub row_written : (key rows : List ℕ) (i : ℕ) (out : List ℕ) → List ℕ
row_written key rows i out = left_by (put_row out i (renamed_row_t (renamed (place_of key)) (input_row rows i)))

-- the rows from i on, this many
unfoldable pub rows_written : (key rows : List ℕ) (i left : ℕ) (out : List ℕ) → List ℕ
rows_written key rows i zero out = out
rows_written key rows i (suc left) out = rows_written key rows (i + 1) left (row_written key rows i out)
