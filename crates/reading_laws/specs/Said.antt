-- What a tree says of a number: the declaration to which it counts, with its row, its number, how far out it is, and its name.
use Rattle.std.proofs.Math.Option.{Option, none, some}
use Rattle.std.specs.Prelude.{List, [], ◌∷◌, ℕ, zero, suc, eqb, ltb, Option as CodeOption, Some, None}
use Rattle.std.proofs.Math.ListN.{get_elem?}
use Rattle.kit.specs.Pick.{pick}
use Rattle.rules.specs.Tools.{when◌then◌else◌}
use Rattle.rules.specs.Rows.{Num, Id}
use Rattle.rules.specs.Tree.{Operand, ref, outer, case}
use Rattle.rules.specs.Readings.{Spot, original, inserted}
use Rattle.places.specs.PlaceRows.{Floor, Located, counted_row}
use Rattle.places.specs.Counting.{spot_of}
use Rattle.readings.specs.declared.Meaning.{Meaning}

-- a declaration, the n-th of its space in a scope that is `out` out
unfoldable pub said : Option Located → (n out : ℕ) → CodeOption Meaning
said none n out = None
said (some x) n out = Some (record { row = x.row; number = n; out = out; name = x.standing.decl.name })

-- the n-th of a space in a scope that is `out` out, if there is that scope
unfoldable pub said_in : Option Floor → (out space n : ℕ) → CodeOption Meaning
said_in none out space n = None
said_in (some f) out space n = said (counted_row f space n) n out

-- What the operands of an outer alias count to, with the scopes around it: an OUTER of two numbers. `named` is what one with a name in it
-- means; no resolved form has one.
unfoldable pub said_out : List Floor → List Operand → (named : CodeOption Meaning) → CodeOption Meaning
said_out fs [] named = named
said_out fs (ref space at paths z ∷ os) named = named
said_out fs (outer space (Num d) (Num n) z ∷ os) named = said_in (get_elem? fs d) d space n
said_out fs (outer space (Num d) (Id name) z ∷ os) named = named
said_out fs (outer space (Id name) at z ∷ os) named = named
said_out fs (case name z ∷ os) named = named

-- Through an inserted outer alias; any other declaration is meant itself, an inserted one of another field too.
unfoldable pub said_behind : List Floor → Spot → (itself named : CodeOption Meaning) → CodeOption Meaning
said_behind fs (original field at) itself named = itself
said_behind fs (inserted h) itself named = when eqb h.code 11 then said_out fs h.operands named else itself

unfoldable pub said_end : List Floor → (named : Located → CodeOption Meaning) → Option Located → (n out : ℕ) → CodeOption Meaning
said_end fs named none n out = None
said_end fs named (some x) n out = said_behind fs (spot_of x) (said (some x) n out) (named x)

-- from the scope on that is `d` further out than the first
unfoldable pub said_from : List Floor → (named : Located → CodeOption Meaning) → (d space n out : ℕ) → CodeOption Meaning
said_from [] named d space n out = None
said_from (f ∷ fs) named zero space n out = said_end (f ∷ fs) named (counted_row f space n) n out
said_from (f ∷ fs) named (suc d) space n out = said_from fs named d space n out

-- the space in which a REF with this many PATHs is sought: with any, that of the instance where they start
unfoldable pub sought : (space paths : ℕ) → ℕ
sought space paths = pick (eqb paths 0) space (pick (ltb space 7) 6 10)

-- Unfolds all of this module: for a claim that antt computes.
unfoldable pub computes : Unit {0}
unfolding said said_in said_out said_behind said_end said_from sought
computes = tt
