-- The operands of references: where each is looked for, and by what.
use Rattle.std.specs.Prelude.{Bool, ◌&&◌, ◌||◌, not, List, ℕ, eqb, ltb}
use Rattle.kit.specs.Pick.{pick}
use Rattle.rules.specs.Shapes.{here_only}
use Rattle.row_parts.specs.Parts.{code_at, b_at, e_at, x_at, y_at, is_inserted, next_of, field_of}
use Rattle.scopes.specs.declared.Key.{Key}
use Rattle.scopes.specs.declared.Key.TheVariants.{Name, Number}
use Rattle.scopes.specs.declared.Wanted.{Wanted}
use Rattle.scopes.specs.declared.Wanted.TheVariants.{Out, Named}

-- the space in which a REF's operand is looked up: with PATHs, that of the instance where they start
unfoldable pub space_sought : (form : List ℕ) (row : ℕ) → ℕ
space_sought form row = pick (eqb (y_at form row) 0) (b_at form row) (pick (ltb (b_at form row) 7) 6 10)

-- a REF without PATHs, in a field that is not here_only_lem
unfoldable pub is_walked : (form : List ℕ) (row : ℕ) → Bool
is_walked form row = eqb (code_at form row) 3 && eqb (y_at form row) 0 && not (here_only (b_at form (field_of form row)))

-- the operand of a REF, a number or a name
unfoldable pub key_of : (form : List ℕ) (row : ℕ) → Key
key_of form row = pick (eqb (e_at form row) 0) (Number (x_at form row)) (Name (x_at form row))

-- the two operands of an OUTER: bit 0 of e says that the scope is a name, bit 1 that the index is one
unfoldable pub outer_wanted : (e x : ℕ) → Wanted
outer_wanted e x = pick (eqb e 1 || eqb e 3) (Named x) (Out x)

-- the second operand of an OUTER, which is a number or a name by the other bit of e
unfoldable pub index_key : (e y : ℕ) → Key
index_key e y = pick (ltb e 2) (Number y) (Name y)

-- the DECL of an inserted outer alias
unfoldable pub is_inserted_outer : (form : List ℕ) (decl : ℕ) → Bool
is_inserted_outer form decl = is_inserted form decl && eqb (code_at form (next_of decl)) 5
