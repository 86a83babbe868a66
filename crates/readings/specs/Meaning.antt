-- How a reference is read, and which declaration it means: by the outward reading where it is a walked name, by counting where it is a number.
use Rattle.std.specs.Prelude.{Bool, true, false, List, ℕ, eqb, Option, Some, None}
use Rattle.kit.specs.Pick.{pick}
use Rattle.row_parts.specs.Parts.{code_at, b_at, e_at, x_at, y_at, next_of}
use Rattle.scopes.specs.Scopes.{scope_of, find_in, scope_outward}
use Rattle.scopes.specs.declared.Key.{Key}
use Rattle.scopes.specs.declared.Key.TheVariants.{Name}
use Rattle.scopes.specs.declared.Wanted.TheVariants.{Declaring}
unfoldable pub use Rattle.operands.specs.Operands.{space_sought, is_walked, outer_wanted, index_key, key_of, is_inserted_outer}
use Rattle.readings.specs.declared.Reading.{Reading}
use Rattle.readings.specs.declared.Reading.TheVariants.{Outward, LookedUp, Counting}
use Rattle.readings.specs.declared.Meaning.{Meaning}
use Rattle.scopes.specs.declared.Found.{Found}
use Rattle.scopes.specs.declared.Outer.{Outer}

-- ---- readings

-- a row whose e is 0 holds numbers
unfoldable pub reading_of : (form : List ℕ) (row : ℕ) → Reading
reading_of form row = pick (eqb (e_at form row) 0) Counting (pick (is_walked form row) Outward LookedUp)

-- is the reference a walked name?
abbrev pub is_outward : Reading → Bool
is_outward Outward = true
is_outward LookedUp = false
is_outward Counting = false

-- ---- meanings

-- what was found, `out` scopes out, with its name
unfoldable pub meant : (form : List ℕ) → Option Found → (out : ℕ) → Option Meaning
meant form (Some found) out = Some (record { row = found.row; number = found.number; out = out; name = x_at form found.row })
meant form None out = None

-- what a scope that is `out` out declares
unfoldable pub in_scope : (form : List ℕ) (scope out space : ℕ) → Key → Option Meaning
in_scope form scope out space key = meant form (find_in form scope space key) out

-- what the scope that was found declares
unfoldable pub in_outer : (form : List ℕ) → Option Outer → (space : ℕ) → Key → Option Meaning
in_outer form (Some outer) space key = in_scope form outer.scope outer.out space key
in_outer form None space key = None

-- the innermost scope around a row that declares a name
unfoldable pub outward_for : (form : List ℕ) (row space name : ℕ) → Option Meaning
outward_for form row space name = in_outer form (scope_outward form (scope_of form row) (Declaring space name)) space (Name name)

-- the declaration at an OUTER's index in its outer scope
unfoldable pub through_outer : (form : List ℕ) (row : ℕ) → Option Meaning
through_outer form row =
    let e = e_at form row in
    in_outer form (scope_outward form (scope_of form row) (outer_wanted e (x_at form row))) (b_at form row) (index_key e (y_at form row))

-- what a REF or an OUTER means; a number counts in its own scope, and no alias is followed
unfoldable pub meaning_of : (form : List ℕ) (row : ℕ) → Option Meaning
meaning_of form row =
    let space = space_sought form row in
    pick (eqb (code_at form row) 5) (through_outer form row)
    (pick (is_outward (reading_of form row)) (outward_for form row space (x_at form row))
    (in_scope form (scope_of form row) 0 space (key_of form row)))

-- behind such an alias, what its OUTER counts to
unfoldable pub behind : (form : List ℕ) → Option Meaning → Option Meaning
behind form (Some meaning) = pick (is_inserted_outer form meaning.row) (through_outer form (next_of meaning.row)) (Some meaning)
behind form None = None

-- what a reference means in the end
unfoldable pub final_meaning : (form : List ℕ) (row : ℕ) → Option Meaning
final_meaning form row = behind form (meaning_of form row)
