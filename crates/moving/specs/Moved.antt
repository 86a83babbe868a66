-- R-1, moved numbers: the written numbers of an accepted tree that denote another declaration in the output than they did in the input.
-- On the two trees alone: the number is counted in both, in the same scope.
use Rattle.std.specs.Prelude.{Bool, false, ◌&&◌, not, List, [], ◌∷◌, ◌++◌, ℕ, suc, eqb, leb}
use Rattle.std.proofs.Math.Option.{Option, none, some, map}
use Rattle.std.proofs.Math.ListN.{get_elem?}
use Rattle.rules.specs.Tools.{when◌then◌else◌, only, ◌then◌, is_just}
use Rattle.rules.specs.Rows.{Num, Id}
use Rattle.rules.specs.Tree.{Operand, ref, outer, case, Scope, scope, Fields, end, ◌▸◌, Item, plain, holds, head_of}
use Rattle.rules.specs.Answer.{same_numbers}
use Rattle.rules.specs.Readings.{is_inserted, originals, Place, use_at, place}
use Rattle.places.specs.PlaceRows.{Floor, floors_at, counted_row}

-- ---- the places of a tree's operands, in row order

-- the places of these operands of a field; `at` is the number of the first of them
unfoldable pub places_at : (way : List ℕ) (field at : ℕ) → List Operand → List Place
places_at way field at [] = []
places_at way field at (o ∷ os) = record { way = way; field = field; at = at } ∷ places_at way field (suc at) os

-- the places of the operands, by the way to their scope
unfoldable mutual
  -- of these fields, before which `n` original fields stand
  pub places_in : (way : List ℕ) (n : ℕ) → Fields → List Place
  places_in way n end = []
  places_in way n (i ▸ fs) =
      when is_inserted (head_of i) then places_in way n fs
      else places_at way n 0 (head_of i).operands ++ (places_inside (way ++ (n ∷ [])) i ++ places_in way (suc n) fs)

  -- of the scope that a field holds, if it holds one
  pub places_inside : (way : List ℕ) → Item → List Place
  places_inside way (plain h) = []
  places_inside way (holds h s) = places_of way s

  -- of a scope
  pub places_of : (way : List ℕ) → Scope → List Place
  places_of way (scope kind name fs) = places_in way 0 fs

-- the places of all operands of a form
unfoldable pub places : Scope → List Place
places s = places_of [] s

-- ---- written numbers

-- the scope that a field holds, if it holds one
unfoldable pub held_scope : Item → Option Scope
held_scope (plain h) = none
held_scope (holds h s) = some s

-- the names of the scopes around a place, its own first
unfoldable pub names_to : (way : List ℕ) → Scope → (outside : List ℕ) → Option (List ℕ)
names_to [] (scope kind name fs) outside = some (name ∷ outside)
names_to (n ∷ way) (scope kind name fs) outside = get_elem? (originals fs) n then λ i. held_scope i then λ s. names_to way s (name ∷ outside)

-- the innermost scope of that name: how far out
unfoldable pub nearest_named : List ℕ → (name : ℕ) → Option ℕ
nearest_named [] name = none
nearest_named (m ∷ ms) name = when eqb m name then some 0 else map suc (nearest_named ms name)

-- A written number: how many scopes out it is counted, 0 for its own; the space; the number. `z` is the place of its row.
pub record Written : Type 0 where
  pub z : ℕ
  pub out : ℕ
  pub space : ℕ
  pub number : ℕ

-- the space of the instance that a path to an item of `space` starts from
unfoldable pub instance_space : ℕ → ℕ
instance_space space = when leb space 6 then 6 else 10

-- The number written in an operand. In a REF, also a here_only_lem one: with PATHs it is that of the first inserted alias's instance. In an OUTER: its index.
-- `names` are those of the scopes around it.
unfoldable pub written : (names : List ℕ) → Operand → Option Written
written names (ref space (Num n) [] z) = some (record { z = z; out = 0; space = space; number = n })
written names (ref space (Num n) (p ∷ ps) z) = some (record { z = z; out = 0; space = instance_space space; number = n })
written names (ref space (Id name) paths z) = none
written names (outer space (Num d) (Num n) z) = some (record { z = z; out = d; space = space; number = n })
written names (outer space (Id name) (Num n) z) = nearest_named names name then λ d. some (record { z = z; out = d; space = space; number = n })
written names (outer space up (Id name) z) = none
written names (case name z) = none

-- the written number at a place, if one stands there
unfoldable pub written_at : Scope → Place → Option Written
written_at s p = use_at s p then λ u. names_to p.way s [] then λ names. written names u.operand

-- ---- what it counts to

-- the scope that it is counted in, if that exists
unfoldable pub counted_in : Scope → Place → Written → Option Floor
counted_in s p w = floors_at s p.way then λ fs. get_elem? fs w.out

-- the declaration there: its place, if it is not an inserted one, and its row
pub record Denoted : Type 0 where
  pub place : Option Place
  pub row : ℕ

-- what a written number denotes in that scope
unfoldable pub denoted : Floor → Written → Option Denoted
denoted f w = counted_row f w.space w.number then λ d. some (record { place = place f.level d.standing.spot; row = d.row })

-- are they at the same place? An inserted declaration is at none.
unfoldable pub same_place : (a b : Option Place) → Bool
same_place none b = false
same_place (some a) none = false
same_place (some a) (some b) = same_numbers a.way b.way && (eqb a.field b.field && eqb a.at b.at)

-- ---- the two lists, in row order

-- a number that has moved: its place, its space, the DECL row that it meant (of the input), the DECL row that it now gets (of the output)
pub record MovedNumber : Type 0 where
  pub z : ℕ
  pub space : ℕ
  pub meant : ℕ
  pub gets : ℕ

-- a number without an item in the input: its place, its space, the number
pub record NoItem : Type 0 where
  pub z : ℕ
  pub space : ℕ
  pub number : ℕ

-- the written number at a place, if it denotes another declaration in the output
unfoldable pub moved_at : (before after : Scope) → Place → Option MovedNumber
moved_at before after p =
    written_at before p then λ w.
    counted_in before p w then λ f. denoted f w then λ was.
    counted_in after p w then λ g. denoted g w then λ now.
    only (not (same_place was.place now.place)) (record { z = w.z; space = w.space; meant = was.row; gets = now.row })

-- the written number at a place, if it denotes no declaration of the input
unfoldable pub apart_at : (before : Scope) → Place → Option NoItem
apart_at before p =
    written_at before p then λ w. counted_in before p w then λ f.
    only (not (is_just (denoted f w))) (record { z = w.z; space = w.space; number = w.number })

-- the value before these, if there is one
unfoldable pub if_any : {A : Type 0} → Option A → List A → List A
if_any none xs = xs
if_any (some x) xs = x ∷ xs

-- all that `f` finds in a list, in order
unfoldable pub collect : {A B : Type 0} → (A → Option B) → List A → List B
collect f [] = []
collect f (x ∷ xs) = if_any (f x) (collect f xs)

-- R-1's list: the numbers that have moved
unfoldable pub moved : (before after : Scope) → List MovedNumber
moved before after = collect (moved_at before after) (places before)

-- R-1's list apart: the numbers without an item in the input
unfoldable pub apart : (before : Scope) → List NoItem
apart before = collect (apart_at before) (places before)

-- Unfolds all of this module: for a claim that antt computes.
unfoldable pub computes : Unit {0}
unfolding places_at places_in places held_scope names_to nearest_named instance_space written written_at counted_in denoted same_place moved_at apart_at if_any collect moved apart
computes = tt
