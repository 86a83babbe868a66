-- The rows of a form, by the bytes in which they stand. Any bytes will do: what lies past the end is 0. Single rows and the header are said in
-- crates below, and passed on here.
use Rattle.std.specs.Prelude.{Bool, ◌&&◌, ◌||◌, not, List, ℕ, zero, suc, ◌+◌, eqb}
use Rattle.kit.specs.Pick.{pick}
pub use Rattle.row_bytes.specs.Parts.{start_of}
unfoldable pub use Rattle.row_bytes.specs.Parts.{code_at, b_at, e_at, x_at, y_at, z_at}
pub use Rattle.row_count.specs.Count.{has_header}
unfoldable pub use Rattle.row_count.specs.Count.{rows_in, is_whole}
unfoldable pub use Rattle.row_kinds.specs.Kinds.{is_inserted, is_reference, next_of, count_on}

-- the last FIELD up to a row, or row 0
unfoldable pub field_of : (form : List ℕ) (row : ℕ) → ℕ
field_of form zero = zero
field_of form (suc above) = pick (eqb (code_at form (suc above)) 1) (suc above) (field_of form above)

-- ---- exports with an ascribed type

-- is it the FIELD of such an export?
unfoldable pub is_typed : (form : List ℕ) (field : ℕ) → Bool
is_typed form field = eqb (b_at form field) 22 && eqb (e_at form field) 1

-- the reference of the ascribed type: to another space than the export declares, or with another reference straight behind it
unfoldable pub is_ascribed : (form : List ℕ) (row : ℕ) → Bool
is_ascribed form row =
    let field = field_of form row in
    is_typed form field && (not (eqb (b_at form row) (b_at form (next_of field))) || eqb (code_at form (next_of row)) 3)

-- ---- inserted fields: each has one DECL

-- the rows from `row` on, of which `left` are left, with `count` of them before
unfoldable pub inserted_from : (form : List ℕ) (row left count : ℕ) → ℕ
inserted_from form row zero count = count
inserted_from form row (suc left) count = inserted_from form (row + 1) left (pick (is_inserted form row) (count + 1) count)

-- how many DECL rows of a form have the name of an inserted field
unfoldable pub inserted_in : List ℕ → ℕ
inserted_in form = inserted_from form 0 (rows_in form) 0
