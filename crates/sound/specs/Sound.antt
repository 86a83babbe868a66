-- What each kind of row is to be, but for the code: tests on its parts, as the code has them. Names reach to `top`.
use Rattle.std.specs.Prelude.{Bool, false, ◌&&◌, ◌||◌, ℕ, ◌/◌, ◌%◌, eqb, leb}
use Rattle.kit.specs.Pick.{pick}
use Rattle.parts.specs.declared.Parts.{Parts}

-- an operand: a number with flag 0, a name from 1 to `top` with flag 1
abbrev pub is_index : (top flag x : ℕ) → Bool
is_index top flag x = eqb flag 0 || eqb flag 1 && (leb 1 x && leb x top)

-- has a row an x and nothing else?
abbrev pub is_lone : Parts → Bool
is_lone p = eqb p.b 0 && (eqb p.e 0 && (eqb p.y 0 && eqb p.z 0))

-- a FIELD: its code stands in b, its builtin in e, its place in z
abbrev pub is_field : Parts → Bool
is_field p = eqb p.x 0 && eqb p.y 0

-- a DECL: its space stands in b, its name in x (0 is none), its place in z
abbrev pub is_decl : (top : ℕ) → Parts → Bool
is_decl top p = eqb p.e 0 && eqb p.y 0 && leb p.x top

-- a REF: its space stands in b, its operand in e and x, how many PATHs follow in y, its place in z
abbrev pub is_ref : (top : ℕ) → Parts → Bool
is_ref top p = is_index top p.e p.x

-- an OUTER: its space stands in b, the scope in the low bit of e and in x, the item in the other bit and in y, its place in z
abbrev pub is_outer : (top : ℕ) → Parts → Bool
is_outer top p = is_index top (p.e % 2) p.x && is_index top (p.e / 2) p.y

-- a CASE: its name stands in x, its place in z
abbrev pub is_case : (top : ℕ) → Parts → Bool
is_case top p = eqb p.b 0 && (eqb p.e 0 && eqb p.y 0) && leb p.x top

-- an OPEN: the scope's kind stands in b, its name in x
abbrev pub is_open : (top : ℕ) → Parts → Bool
is_open top p = eqb p.e 0 && (eqb p.y 0 && eqb p.z 0) && leb p.x top

-- a CLOSE has nothing but its code
abbrev pub is_close : Parts → Bool
is_close p = eqb p.b 0 && (eqb p.e 0 && (eqb p.x 0 && (eqb p.y 0 && eqb p.z 0)))

-- can the parts be taken apart?
unfoldable pub is_sound : (top : ℕ) → Parts → Bool
is_sound top p =
    pick (eqb p.code 1) (is_field p)
    (pick (eqb p.code 2) (is_decl top p)
    (pick (eqb p.code 3) (is_ref top p)
    (pick (eqb p.code 4) (is_lone p)
    (pick (eqb p.code 5) (is_outer top p)
    (pick (eqb p.code 6) (is_case top p)
    (pick (eqb p.code 7) (is_open top p)
    (pick (eqb p.code 8) (is_close p)
    (pick (eqb p.code 9) (is_lone p)
    false))))))))
