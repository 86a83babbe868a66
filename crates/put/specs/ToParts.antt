-- What only the proofs do: the parts of a row as the code puts them together. `proofs/Laws` has that their bytes are the rules'.
use Rattle.std.specs.Prelude.{List, ℕ, ◌+◌, ◌*◌}
use Rattle.rules.specs.Rows.{raw, raw_bytes}
use Rattle.parts.specs.PartsAt.{parts}
use Rattle.parts.specs.declared.Parts.{Parts}
use Rattle.rows.specs.declared.row.Index.{Index}
use Rattle.rows.specs.declared.row.Index.TheVariants.{Number, Name}
use Rattle.rows.specs.declared.row.Row.{Row}
use Rattle.rows.specs.declared.row.Row.TheVariants.{Field, Decl, Ref, Path, Outer, Case, Open, Close, Export, Broken}

-- the flag of an operand: 0 for a number, 1 for a name
abbrev pub flag_of : Index → ℕ
flag_of (Number n) = 0
flag_of (Name n) = 1

-- the number or the name itself
abbrev pub value_of : Index → ℕ
value_of (Number n) = n
value_of (Name n) = n

-- the parts of a row of each kind
abbrev pub row_parts : Row → Parts
row_parts (Field code builtin z) = parts 1 code builtin 0 0 z
row_parts (Decl space name z) = parts 2 space 0 name 0 z
row_parts (Ref space at paths z) = parts 3 space (flag_of at) (value_of at) paths z
row_parts (Path name) = parts 4 0 0 name 0 0
row_parts (Outer space up at z) = parts 5 space (flag_of up + 2 * flag_of at) (value_of up) (value_of at) z
row_parts (Case name z) = parts 6 0 0 name 0 z
row_parts (Open kind name) = parts 7 kind 0 name 0 0
row_parts Close = parts 8 0 0 0 0 0
row_parts (Export name) = parts 9 0 0 name 0 0
row_parts Broken = parts 0 0 0 0 0 0

-- the sixteen bytes of six parts
unfoldable pub part_bytes : Parts → List ℕ
part_bytes p = raw_bytes (raw p.code p.b p.e p.x p.y p.z)
