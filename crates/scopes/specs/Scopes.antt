-- Scopes, and what they declare. A scope is known by its first row, the one behind its OPEN; the rows outside every OPEN have 0 for theirs.
use Rattle.std.specs.Prelude.{Bool, ◌&&◌, not, List, ℕ, zero, suc, ◌+◌, ◌-◌, eqb, Option, Some, None, is_some}
use Rattle.kit.specs.Pick.{pick}
use Rattle.rules.specs.Readings.{is_fresh}
use Rattle.row_parts.specs.Parts.{code_at, x_at, rows_in}
unfoldable pub use Rattle.scope_rows.specs.Levels.{level_behind, level_on, level_above, scope_above, scope_of, declares, number_from, number_of}
use Rattle.scopes.specs.declared.Key.{Key}
use Rattle.scopes.specs.declared.Key.TheVariants.{Name, Number, Inserted}
use Rattle.scopes.specs.declared.Wanted.{Wanted}
use Rattle.scopes.specs.declared.Wanted.TheVariants.{Out, Named, Declaring}
use Rattle.scopes.specs.declared.Found.{Found}
use Rattle.scopes.specs.declared.Outer.{Outer}

-- ---- declarations

-- 0 is no name
abbrev pub is_meant : Key → (name number : ℕ) → Bool
is_meant (Name wanted) name number = not (eqb wanted 0) && eqb wanted name
is_meant (Number wanted) name number = eqb wanted number
is_meant Inserted name number = is_fresh name

-- the rows from `row` on, of which `left` are left, with `number` declarations of the space before
unfoldable pub find_from : (form : List ℕ) (space : ℕ) → Key → (row left level number : ℕ) → Option Found
find_from form space key row zero level number = None
find_from form space key row (suc left) level number =
    let code = code_at form row in
    let here = declares form row level space in
    pick (eqb level 0 && eqb code 8) None
    (pick (here && is_meant key (x_at form row) number) (Some (record { row = row; number = number }))
    (find_from form space key (row + 1) left (level_behind level code) (pick here (number + 1) number)))

-- the declaration of a space that a scope has by a name or a number, or its first inserted one
unfoldable pub find_in : (form : List ℕ) (scope space : ℕ) → Key → Option Found
find_in form scope space key = find_from form space key scope (rows_in form - scope) 0 0

-- ---- outward

-- does the scope declare this name in this space?
unfoldable pub declares_name : (form : List ℕ) (scope space name : ℕ) → Bool
declares_name form scope space name = is_some (find_in form scope space (Name name))

-- a scope's name is that of its OPEN
abbrev pub is_wanted : (form : List ℕ) (scope out : ℕ) → Wanted → Bool
is_wanted form scope out (Out count) = eqb out count
is_wanted form scope out (Named name) = eqb (x_at form (scope - 1)) name
is_wanted form scope out (Declaring space name) = declares_name form scope space name

-- from a scope outward, which is `out` out; each lies before the one in it, so there are at most `left` of them
unfoldable pub outward_from : (form : List ℕ) → Wanted → (left scope out : ℕ) → Option Outer
outward_from form wanted zero scope out = None
outward_from form wanted (suc left) scope out =
    pick (eqb scope 0) None
    (pick (is_wanted form scope out wanted) (Some (record { scope = scope; out = out }))
    (outward_from form wanted left (scope_of form (scope - 1)) (out + 1)))

-- the first scope, from this one outward, that is wanted
unfoldable pub scope_outward : (form : List ℕ) (scope : ℕ) → Wanted → Option Outer
scope_outward form scope wanted = outward_from form wanted scope scope 0
