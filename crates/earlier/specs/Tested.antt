-- The names of an input that are held to earlier declarations, and what each means: a walked name outward from its scope; the instance that
-- a path begins with in its own scope; a named index of OUTER in the scope that it leads to. This is said of a tree alone and runs no step.
-- Here-only operands and written numbers are not among them.
use Rattle.std.specs.Prelude.{not, List, [], ◌∷◌, ℕ, suc, eqb, leb, take}
use Rattle.std.proofs.Math.Option.{Option, none, some, map}
use Rattle.std.proofs.Math.ListN.{get_elem?}
use Rattle.rules.specs.Tools.{when◌then◌else◌, only, ◌then◌}
use Rattle.rules.specs.Rows.{Index, Num, Id}
use Rattle.rules.specs.Tree.{Operand, ref, outer, case, Head, Scope, scope, Item, plain, holds}
use Rattle.rules.specs.Shapes.{here_only}
use Rattle.rules.specs.Readings.{originals, Place, Level, use_inside, outward}

-- the space of the instance that a path begins with: `more` are its exports behind the first
unfoldable pub instance_space : (space : ℕ) (more : List ℕ) → ℕ
instance_space space [] = when leb space 6 then 6 else 10
instance_space space (p ∷ more) = 10

-- ---- how far out an OUTER goes

-- the scope that a field holds, if it holds one
unfoldable pub held_scope : Item → Option Scope
held_scope (plain h) = none
held_scope (holds h s) = some s

-- the names of the scopes around a place, its own first; `outside` are those around the form
unfoldable pub names_around : (way : List ℕ) → Scope → (outside : List ℕ) → Option (List ℕ)
names_around [] (scope kind name fs) outside = some (name ∷ outside)
names_around (n ∷ way) (scope kind name fs) outside =
    get_elem? (originals fs) n then λ i. held_scope i then λ s.
    names_around way s (name ∷ outside)

-- how far out the nearest scope of that name is
unfoldable pub nearest : List ℕ → (name : ℕ) → Option ℕ
nearest [] name = none
nearest (n ∷ ns) name = when eqb n name then some 0 else map suc (nearest ns name)

-- how far out an OUTER goes: as far as its number says, or to the nearest scope of its name
unfoldable pub upward : List ℕ → Index → Option ℕ
upward names (Num d) = some d
upward names (Id name) = nearest names name

-- ---- the name, and the scopes in which it is looked up, the nearest first

-- a name that is held to earlier declarations, with its space and these scopes
pub record Name : Type 0 where
  pub scopes : List Level
  pub space : ℕ
  pub name : ℕ

-- the name in an operand that is held to earlier declarations, if it has one; `names` are those of the scopes around it
unfoldable pub name_of : (names : List ℕ) → List Level → Head → Operand → Option Name
name_of names ls h (ref space (Num n) paths z) = none
name_of names ls h (ref space (Id name) [] z) = only (not (here_only h.code)) (record { scopes = ls; space = space; name = name })
name_of names ls h (ref space (Id name) (p ∷ ps) z) = only (not (here_only h.code)) (record { scopes = take 1 ls; space = instance_space space ps; name = name })
name_of names ls h (outer space up (Num n) z) = none
name_of names ls h (outer space up (Id name) z) =
    upward names up then λ d. get_elem? ls d then λ l.
    some (record { scopes = l ∷ []; space = space; name = name })
name_of names ls h (case name z) = none

-- the name at a place that is held to earlier declarations, if one stands there
unfoldable pub tested_inside : (base : List ℕ) (outside : List Level) (names : List ℕ) → Scope → Place → Option Name
tested_inside base outside names s p =
    use_inside base outside s p then λ u. names_around p.way s names then λ ns.
    name_of ns u.levels u.head u.operand

-- the same in a form by itself
abbrev pub tested_at : Scope → Place → Option Name
tested_at s p = tested_inside [] [] [] s p

-- the declaration that a name means
unfoldable pub means : Name → Option Place
means x = outward x.scopes x.space x.name

-- Unfolds all of this module: for a claim that antt computes.
unfoldable pub computes : Unit {0}
unfolding instance_space held_scope names_around nearest upward name_of tested_inside means
computes = tt
