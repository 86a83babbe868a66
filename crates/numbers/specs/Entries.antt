-- What is listed of a row: its number, the declaration that it meant in the input, and the one that it gets in the output.
use Rattle.std.specs.Prelude.{Bool, false, ◌&&◌, ◌||◌, List, ℕ, eqb, leb, ltb, Option, Some, None}
use Rattle.kit.specs.Pick.{pick}
use Rattle.numbers.specs.declared.Entry.TheVariants.{Moved, Apart}
use Rattle.row_parts.specs.Parts.{code_at, b_at, e_at, x_at, y_at, z_at}
use Rattle.scopes.specs.Scopes.{scope_of, find_in, scope_outward}
use Rattle.readings.specs.Meaning.{space_sought, outer_wanted}
use Rattle.scopes.specs.declared.Key.TheVariants.{Number as Numbered, Inserted}
use Rattle.scopes.specs.declared.Wanted.{Wanted}
use Rattle.scopes.specs.declared.Wanted.TheVariants.{Out}
use Rattle.numbers.specs.declared.Number.{Number}
use Rattle.numbers.specs.declared.Entry.{Entry}
use Rattle.scopes.specs.declared.Found.{Found}
use Rattle.scopes.specs.declared.Outer.{Outer}

-- ---- the number of a row

-- a REF that is a number, or an OUTER whose index is one
unfoldable pub is_written : (form : List ℕ) (row : ℕ) → Bool
is_written form row = (eqb (code_at form row) 3 && eqb (e_at form row) 0) || (eqb (code_at form row) 5 && ltb (e_at form row) 2)

abbrev pub numbered : (z space number : ℕ) → Number
numbered z space number = record { z = z; space = space; number = number }

-- with PATHs it is that of the instance where they start
unfoldable pub number_at : (form : List ℕ) (row : ℕ) → Number
number_at form row =
    let z = z_at form row in
    pick (eqb (code_at form row) 5) (numbered z (b_at form row) (y_at form row)) (numbered z (space_sought form row) (x_at form row))

-- the scope that it is counted in: of a REF its own, of an OUTER the one that it names
unfoldable pub scope_wanted : (form : List ℕ) (row : ℕ) → Wanted
scope_wanted form row = pick (eqb (code_at form row) 5) (outer_wanted (e_at form row) (x_at form row)) (Out 0)

-- ---- in the output

-- is the number of what is found at most n?
unfoldable pub reaches : Option Found → (n : ℕ) → Bool
reaches (Some found) n = leb found.number n
reaches None n = false

-- has an inserted declaration this number or a lower one?
unfoldable pub is_pushed : (out : List ℕ) (scope : ℕ) → Number → Bool
is_pushed out scope n = reaches (find_in out scope n.space Inserted) n.number

unfoldable pub gets : Number → (meant : ℕ) → Option Found → Option Entry
gets n meant (Some found) = Some (Moved n.z n.space meant found.row)
gets n meant None = None

-- a number that meant something in the input, in its scope of the output
unfoldable pub gets_entry : (out : List ℕ) (scope : ℕ) → Number → (meant : ℕ) → Option Entry
gets_entry out scope n meant =
    pick (is_pushed out scope n) (gets n meant (find_in out scope n.space (Numbered n.number))) None

unfoldable pub gets_in : (out : List ℕ) → Option Outer → Number → (meant : ℕ) → Option Entry
gets_in out (Some outer) n meant = gets_entry out outer.scope n meant
gets_in out None n meant = None

-- this many scopes out from a row
unfoldable pub output_entry : (out : List ℕ) (at away : ℕ) → Number → (meant : ℕ) → Option Entry
output_entry out at away n meant = gets_in out (scope_outward out (scope_of out at) (Out away)) n meant

-- ---- in the input

unfoldable pub meant_by : (out : List ℕ) (at away : ℕ) → Number → Option Found → Option Entry
meant_by out at away n (Some found) = output_entry out at away n found.row
meant_by out at away n None = Some (Apart n.z n.space n.number)

-- a number in its scope of the input, which is `away` scopes out
unfoldable pub counted_entry : (form : List ℕ) (scope away : ℕ) → Number → (out : List ℕ) (at : ℕ) → Option Entry
counted_entry form scope away n out at = meant_by out at away n (find_in form scope n.space (Numbered n.number))

unfoldable pub counted_in : (form : List ℕ) → Option Outer → Number → (out : List ℕ) (at : ℕ) → Option Entry
counted_in form (Some outer) n out at = counted_entry form outer.scope outer.out n out at
counted_in form None n out at = None

-- `at` is a row of the output in the scope of the input's row
unfoldable pub entry_at : (form : List ℕ) (row : ℕ) (out : List ℕ) (at : ℕ) → Option Entry
entry_at form row out at =
    pick (is_written form row) (counted_in form (scope_outward form (scope_of form row) (scope_wanted form row)) (number_at form row) out at) None
