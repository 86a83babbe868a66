-- What a slot is answered, as the code finds it on the rows of a resolved form.
use Rattle.std.specs.Prelude.{Bool, false, not, List, ℕ, zero, suc, ◌+◌, ◌-◌, eqb, leb, Option, Some, None}
use Rattle.kit.specs.Pick.{pick}
use Rattle.row_parts.specs.Parts.{code_at, z_at, is_inserted, rows_in}
use Rattle.readings.specs.Meaning.{final_meaning}
use Rattle.bound.specs.declared.Reference.{Reference}
use Rattle.bound.specs.declared.Reference.TheVariants.{Nothing, At, Several as Many}
use Rattle.bound.specs.declared.Binding.{Binding}
use Rattle.bound.specs.declared.Binding.TheVariants.{AsWritten, Elsewhere, NoReference, Several}
use Rattle.readings.specs.declared.Meaning.{Meaning}

-- ---- the references at a place

-- a REF with that place, and no inserted DECL before it
unfoldable pub is_reference : (form : List ℕ) (row place : ℕ) → Bool
is_reference form row place = pick (eqb (code_at form row) 3) (pick (eqb (z_at form row) place) (not (is_inserted form (row - 1))) false) false

-- the first from `row` on, where `left` rows are left, or the row behind them
unfoldable pub next_from : (form : List ℕ) (place row left : ℕ) → ℕ
next_from form place row zero = row
next_from form place row (suc left) = pick (is_reference form row place) row (next_from form place (row + 1) left)

-- the first such row from a row on; the number of rows, if there is none
unfoldable pub next_reference : (form : List ℕ) (place row : ℕ) → ℕ
next_reference form place row = next_from form place row (rows_in form - row)

-- the first, if there is one, and whether there is a second
unfoldable pub reference_at : (form : List ℕ) (place : ℕ) → Reference
reference_at form place =
    let rows = rows_in form in
    let row = next_reference form place 0 in
    pick (leb rows row) Nothing (pick (leb rows (next_reference form place (row + 1))) (At row) Many)

-- ---- what it is bound to

unfoldable pub bound_to : Option Meaning → (name : ℕ) → Binding
bound_to (Some meaning) name = pick (eqb meaning.name name) AsWritten (Elsewhere meaning.row)
bound_to None name = Elsewhere 0

-- what a reference is bound to: what it means in the end, which is a declaration of that name or not
unfoldable pub bound_at : (form : List ℕ) (row name : ℕ) → Binding
bound_at form row name = bound_to (final_meaning form row) name

unfoldable pub bound_by : (form : List ℕ) → Reference → (name : ℕ) → Binding
bound_by form Nothing name = NoReference
bound_by form (At row) name = bound_at form row name
bound_by form Many name = Several

-- what a slot of that place and name is bound to
unfoldable pub binding_of : (form : List ℕ) (place name : ℕ) → Binding
binding_of form place name = bound_by form (reference_at form place) name
