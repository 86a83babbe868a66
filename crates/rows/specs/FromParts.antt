-- What only the proofs do: a row by its parts, as the code takes it: nested tests on numbers. `proofs/Laws` has that it is the rules' row.
use Rattle.std.specs.Prelude.{ℕ, ◌/◌, ◌%◌, eqb}
use Rattle.kit.specs.Pick.{pick}
use Rattle.parts.specs.declared.Parts.{Parts}
pub use Rattle.parts.specs.PartsAt.{two, four}
pub use Rattle.sound.specs.Sound.{is_index, is_lone, is_field, is_decl, is_ref, is_outer, is_case, is_open, is_close}
unfoldable pub use Rattle.sound.specs.Sound.{is_sound}
use Rattle.rows.specs.declared.row.Index.{Index}
use Rattle.rows.specs.declared.row.Index.TheVariants.{Number, Name}
use Rattle.rows.specs.declared.row.Row.{Row}
use Rattle.rows.specs.declared.row.Row.TheVariants.{Field, Decl, Ref, Path, Outer, Case, Open, Close, Export, Broken}

-- an operand by its flag: 0 for a number, 1 for a name
unfoldable pub index_of : (flag x : ℕ) → Index
index_of flag x = pick (eqb flag 0) (Number x) (Name x)

-- a FIELD, if these parts are those of one; else Broken
unfoldable pub field_of : Parts → Row
field_of p = pick (is_field p) (Field p.b p.e p.z) Broken

-- a DECL, whose name reaches to `top`; else Broken
unfoldable pub decl_of : (top : ℕ) → Parts → Row
decl_of top p = pick (is_decl top p) (Decl p.b p.x p.z) Broken

-- a REF, whose name reaches to `top`; else Broken
unfoldable pub ref_of : (top : ℕ) → Parts → Row
ref_of top p = pick (is_ref top p) (Ref p.b (index_of p.e p.x) p.y p.z) Broken

-- a PATH, else Broken
unfoldable pub path_of : Parts → Row
path_of p = pick (is_lone p) (Path p.x) Broken

-- an OUTER, whose names reach to `top`; else Broken
unfoldable pub outer_of : (top : ℕ) → Parts → Row
outer_of top p = pick (is_outer top p) (Outer p.b (index_of (p.e % 2) p.x) (index_of (p.e / 2) p.y) p.z) Broken

-- a CASE, whose name reaches to `top`; else Broken
unfoldable pub case_of : (top : ℕ) → Parts → Row
case_of top p = pick (is_case top p) (Case p.x p.z) Broken

-- an OPEN, whose name reaches to `top`; else Broken
unfoldable pub open_of : (top : ℕ) → Parts → Row
open_of top p = pick (is_open top p) (Open p.b p.x) Broken

-- a CLOSE, else Broken
unfoldable pub close_of : Parts → Row
close_of p = pick (is_close p) Close Broken

-- an EXPORT, else Broken
unfoldable pub export_of : Parts → Row
export_of p = pick (is_lone p) (Export p.x) Broken

-- what parts say that can be taken apart
unfoldable pub said_by : Parts → Row
said_by p =
    pick (eqb p.code 1) (Field p.b p.e p.z)
    (pick (eqb p.code 2) (Decl p.b p.x p.z)
    (pick (eqb p.code 3) (Ref p.b (index_of p.e p.x) p.y p.z)
    (pick (eqb p.code 4) (Path p.x)
    (pick (eqb p.code 5) (Outer p.b (index_of (p.e % 2) p.x) (index_of (p.e / 2) p.y) p.z)
    (pick (eqb p.code 6) (Case p.x p.z)
    (pick (eqb p.code 7) (Open p.b p.x)
    (pick (eqb p.code 8) Close
    (pick (eqb p.code 9) (Export p.x)
    Broken))))))))

-- the row of six parts, where names reach to `top`
unfoldable pub row_of : (top : ℕ) → Parts → Row
row_of top p = pick (is_sound top p) (said_by p) Broken
