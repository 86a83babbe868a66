-- What a name of a member means, by the rows of the member and of the prelude in whose root it lies.
use Rattle.std.specs.Prelude.{Bool, false, List, ℕ, ◌-◌, ◌%◌, eqb, ltb, Option, Some, None, is_some}
use Rattle.kit.specs.Pick.{pick}
use Rattle.meant.specs.declared.Declared.TheVariants.{Member, Prelude}
use Rattle.row_parts.specs.Parts.{code_at, b_at, e_at, x_at, y_at}
use Rattle.scopes.specs.Scopes.{scope_of, find_in, scope_outward}
use Rattle.scopes.specs.declared.Key.TheVariants.{Name}
use Rattle.scopes.specs.declared.Wanted.{Wanted}
use Rattle.scopes.specs.declared.Wanted.TheVariants.{Out, Named, Declaring}
use Rattle.readings.specs.Meaning.{reading_of, meaning_of}
use Rattle.readings.specs.declared.Reading.{Reading}
use Rattle.readings.specs.declared.Reading.TheVariants.{Outward, LookedUp, Counting}
use Rattle.meant.specs.declared.Declared.{Declared}
use Rattle.readings.specs.declared.Meaning.{Meaning}
use Rattle.scopes.specs.declared.Found.{Found}
use Rattle.scopes.specs.declared.Outer.{Outer}

-- ---- in one form

-- what a name means that is looked for in the member alone
unfoldable pub in_member : Option Meaning → Option Declared
in_member (Some meaning) = Some (Member meaning.row)
in_member None = None

-- what a search in the prelude's root finds, or in a scope of the member
unfoldable pub root_found : Option Found → Option Declared
root_found (Some found) = Some (Prelude found.row)
root_found None = None

unfoldable pub member_found : Option Found → Option Declared
member_found (Some found) = Some (Member found.row)
member_found None = None

-- a name in the prelude's root, whose first row is row 1
unfoldable pub in_root : (prelude : List ℕ) (space name : ℕ) → Option Declared
in_root prelude space name = root_found (find_in prelude 1 space (Name name))

-- a name that one scope of the member declares
unfoldable pub scope_meant : (member : List ℕ) (scope space name : ℕ) → Option Declared
scope_meant member scope space name = member_found (find_in member scope space (Name name))

-- ---- references

unfoldable pub or_root : Option Meaning → (prelude : List ℕ) (space name : ℕ) → Option Declared
or_root (Some meaning) prelude space name = Some (Member meaning.row)
or_root None prelude space name = in_root prelude space name

-- a walked name: outward in the member, and then the prelude's root
unfoldable pub walked_meant_t : (prelude member : List ℕ) (row : ℕ) → Option Declared
walked_meant_t prelude member row = or_root (meaning_of member row) prelude (b_at member row) (x_at member row)

unfoldable pub by_reading : Reading → (prelude member : List ℕ) (row : ℕ) → Option Declared
by_reading Outward prelude member row = walked_meant_t prelude member row
by_reading LookedUp prelude member row = in_member (meaning_of member row)
by_reading Counting prelude member row = None

-- a REF: a name that is not walked means what its own scope declares, and a number means nothing here
unfoldable pub ref_meant_t : (prelude member : List ℕ) (row : ℕ) → Option Declared
ref_meant_t prelude member row = by_reading (reading_of member row) prelude member row

-- ---- a named index of OUTER

-- the outer scope that is asked for: by its name, where bit 0 of e says so, or by a count
unfoldable pub outer_wanted_t : (e x : ℕ) → Wanted
outer_wanted_t e x = pick (eqb (e % 2) 1) (Named x) (Out x)

-- whether there is such a scope of the member around a row
unfoldable pub has_scope : (member : List ℕ) (row : ℕ) → Wanted → Bool
has_scope member row wanted = is_some (scope_outward member (scope_of member row) wanted)

-- is the prelude's root, which lies behind all scopes of the member, the scope that is asked for?
unfoldable pub is_root_t : (prelude member : List ℕ) (row : ℕ) → Wanted → Bool
is_root_t prelude member row (Out count) = pick (eqb count 0) false (has_scope member row (Out (count - 1)))
is_root_t prelude member row (Named name) = eqb (x_at prelude 0) name
is_root_t prelude member row (Declaring space name) = false

-- a named index where no scope of the member is the one asked for
unfoldable pub meant_behind_t : (prelude member : List ℕ) (row : ℕ) → Wanted → Option Declared
meant_behind_t prelude member row wanted = pick (is_root_t prelude member row wanted) (in_root prelude (b_at member row) (y_at member row)) None

unfoldable pub in_outer_t : Option Outer → (prelude member : List ℕ) (row : ℕ) → Wanted → Option Declared
in_outer_t (Some outer) prelude member row wanted = scope_meant member outer.scope (b_at member row) (y_at member row)
in_outer_t None prelude member row wanted = meant_behind_t prelude member row wanted

-- a named index: what the scope declares that is asked for
unfoldable pub index_meant_t : (prelude member : List ℕ) (row : ℕ) → Option Declared
index_meant_t prelude member row =
    let wanted = outer_wanted_t (e_at member row) (x_at member row) in
    in_outer_t (scope_outward member (scope_of member row) wanted) prelude member row wanted

-- ---- any row

-- what the name in a row means; rows without one mean nothing, and so does an OUTER whose index is a number
unfoldable pub name_meant_t : (prelude member : List ℕ) (row : ℕ) → Option Declared
name_meant_t prelude member row =
    pick (eqb (code_at member row) 5) (pick (ltb (e_at member row) 2) None (index_meant_t prelude member row))
    (pick (eqb (code_at member row) 3) (ref_meant_t prelude member row) None)
