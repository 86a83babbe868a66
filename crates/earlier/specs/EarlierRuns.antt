-- Runs that antt computes: an outer declaration before the component that refers to it and one behind it, and what tested names mean.
use Rattle.std.specs.Prelude.{◌≡◌, refl, false, List, [], ◌∷◌, ℕ}
use Rattle.std.proofs.Math.Option.{Option, none, some}
use Rattle.std.proofs.Common.{arith}
use Rattle.rules.specs.Tools as tools
use Rattle.rules.specs.Tools.{◌then◌}
use Rattle.rules.specs.Versions.{today, newer}
use Rattle.rules.specs.Rows.{Id}
use Rattle.rules.specs.Tree as trees
use Rattle.rules.specs.Tree.{Operand, ref, outer, Head, Scope, scope, end, ◌▸◌, Item, plain, holds}
use Rattle.rules.specs.Shapes as shapes
use Rattle.rules.specs.Rules as steps
use Rattle.rules.specs.Rules.{Result, ok, refused, not_earlier, resolve}
use Rattle.rules.specs.Readings as readings
use Rattle.rules.specs.Readings.{Place, is_earlier}
use Rattle.rules.specs.Explainer as explainer
use Rattle.rules.specs.Explainer.{Definition, standing_at, explained}
use Rattle.earlier.specs.Order.{StandsBefore}
use Rattle.earlier.specs.Tested as tested
use Rattle.earlier.specs.Tested.{tested_at, means}

field : (code space name : ℕ) → List Operand → Head
field code space name os = record { code = code; builtin = 0; z = 0; decls = record { space = space; name = name; z = 0 } ∷ []; operands = os; export = none }

-- type 1, and a component with a type that refers to it
type1 : Item
type1 = plain (field 12 9 1 [])

component : Item
component = holds (field 6 11 2 []) (scope 0 2 (plain (field 12 9 3 (ref 9 (Id 1) [] 70 ∷ [])) ▸ end))

in_order : Scope
in_order = scope 0 0 (type1 ▸ component ▸ end)

out_of_order : Scope
out_of_order = scope 0 0 (component ▸ type1 ▸ end)

-- what the first field of the component denotes that stands in this field of the output's root
denoted : Result (Scope × ℕ) → (field : ℕ) → Option Definition
denoted (refused why z) n = none
denoted (ok r) n = standing_at r.0 (n ∷ []) 0 then explained

-- in order: under both rule sets the alias denotes the type in field 0, and field 1 holds the alias
earlier_accepted : denoted (resolve newer in_order) 1 ≡ some (record { way = []; field = 0; at = 0 })
unfolding field type1 component in_order denoted tools.computes trees.computes shapes.computes steps.computes readings.computes explainer.computes
earlier_accepted = refl

stands_before : StandsBefore (record { way = []; field = 0; at = 0 }) (1 ∷ 0 ∷ [])
stands_before = record { through = 1; rest = 0 ∷ []; towards = refl; earlier = omega arith }

-- out of order: under rule set 0 it denotes the type in field 1, and field 0 holds the alias; under rule set 1 that is refused
later_accepted : denoted (resolve today out_of_order) 0 ≡ some (record { way = []; field = 1; at = 0 })
unfolding field type1 component out_of_order denoted tools.computes trees.computes shapes.computes steps.computes readings.computes explainer.computes
later_accepted = refl

stands_behind : ¬ StandsBefore (record { way = []; field = 1; at = 0 }) (0 ∷ 0 ∷ [])
stands_behind B =
    let same : 0 ∷ 0 ∷ [] ≡ B.through ∷ B.rest = B.towards in
    let through-is : 0 ≡ B.through = cc in
    absurd (omega (arith, B.earlier, through-is))

later_refused : resolve newer out_of_order ≡ refused not_earlier 70
unfolding field type1 component out_of_order tools.computes trees.computes shapes.computes steps.computes readings.computes explainer.computes
later_refused = refl

-- ---- what tested names mean

place : (way : List ℕ) (field at : ℕ) → Place
place way n at = record { way = way; field = n; at = at }

-- an export of instance 1, which a later field declares, in a scope around which another instance 1 stands; and a type looked up in the
-- nearest scope named 4, which is this one
inner : Scope
inner =
    scope 0 4
    (plain (field 22 8 0 (ref 8 (Id 1) (5 ∷ []) 9 ∷ []))
    ▸ plain (field 8 10 1 [])
    ▸ plain (field 11 9 7 (outer 9 (Id 4) (Id 6) 9 ∷ []))
    ▸ plain (field 4 4 8 (ref 4 (Id 8) [] 9 ∷ []))
    ▸ plain (field 12 9 6 [])
    ▸ end)

tree : Scope
tree = scope 0 4 (plain (field 8 10 1 []) ▸ plain (field 12 9 6 []) ▸ holds (field 6 11 4 []) inner ▸ end)

path_meant : (tested_at tree (place (2 ∷ []) 0 0) then means) ≡ some (place (2 ∷ []) 1 0)
unfolding field inner tree place tools.computes trees.computes shapes.computes readings.computes tested.computes
path_meant = refl

index_meant : (tested_at tree (place (2 ∷ []) 2 0) then means) ≡ some (place (2 ∷ []) 4 0)
unfolding field inner tree place tools.computes trees.computes shapes.computes readings.computes tested.computes
index_meant = refl

-- a here_only_lem operand is not tested
here_only_free : tested_at tree (place (2 ∷ []) 3 0) ≡ none
unfolding field inner tree place tools.computes trees.computes shapes.computes readings.computes tested.computes
here_only_free = refl

path_late : is_earlier (place (2 ∷ []) 1 0) (place (2 ∷ []) 0 0) ≡ false
unfolding place readings.computes
path_late = refl
