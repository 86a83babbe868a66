-- A declaration that the rules give, and the row that is told.
use Rattle.std.specs.Prelude.{◌≡◌, ℕ, Option as CodeOption, Some, None}
use Rattle.std.proofs.Math.Option.{Option, none, some, map}
use Rattle.rules.specs.Tree.{Scope}
use Rattle.rules.specs.Readings.{Place}
use Rattle.places.specs.PlaceRows.{row_of_decl}
use Rattle.batching.specs.BatchReadings.{Meant, in_prelude, in_member}
use Rattle.meant.specs.Names.{root_found, member_found}
use Rattle.meant.specs.declared.Declared.TheVariants.{Member, Prelude}
use Rattle.meant.specs.declared.Declared.{Declared}
use Rattle.scopes.specs.declared.Found.{Found}

-- Of the prelude `s` and the member `m`: the row of the place that the rules give, in its form; nothing where they give none.
pub data Told (s m : Scope) : Option Meant → CodeOption Declared → Type 0 where
  nothing : Told s m none None
  in_member_lem : {d : Place} {row : ℕ} → row_of_decl m d ≡ some row → Told s m (some (in_member d)) (Some (Member row))
  in_prelude_lem : {d : Place} {row : ℕ} → row_of_decl s d ≡ some row → Told s m (some (in_prelude d)) (Some (Prelude row))

-- the same of a search in one scope of the form of `t`
pub data Finds (t : Scope) : Option Place → CodeOption Found → Type 0 where
  no_row : Finds t none None
  at_row : {d : Place} {found : Found} → row_of_decl t d ≡ some found.row → Finds t (some d) (Some found)

pub found_in_member : (s m : Scope) (o : Option Place) (f : CodeOption Found) → Finds m o f → Told s m (map in_member o) (member_found f)
unfolding member_found
found_in_member s m none None no_row = nothing
found_in_member s m (some d) (Some found) (at_row e) = in_member_lem e
found_in_member s m none (Some found) x'' = elim x'' [ ]
found_in_member s m (some d) None x3 = elim x3 [ ]

pub found_in_root : (s m : Scope) (o : Option Place) (f : CodeOption Found) → Finds s o f → Told s m (map in_prelude o) (root_found f)
unfolding root_found
found_in_root s m none None no_row = nothing
found_in_root s m (some d) (Some found) (at_row e) = in_prelude_lem e
found_in_root s m none (Some found) x'' = elim x'' [ ]
found_in_root s m (some d) None x3 = elim x3 [ ]
