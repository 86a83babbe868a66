-- Runs beside P1 to P10: for each rule that those do not touch, the smallest input that tells it from an easy error.
use Rattle.std.specs.Prelude.{◌≡◌, refl, Bool, true, ◌&&◌, List, [], ◌∷◌, ◌++◌, ℕ, zero, suc, take, replicate}
use Rattle.rules.specs.Tools
use Rattle.rules.specs.Versions.{version1, today, base}
use Rattle.rules.specs.Rows
use Rattle.rules.specs.Rows.{bytes, Raw, raw}
use Rattle.rules.specs.Tree
use Rattle.rules.specs.Shapes
use Rattle.rules.specs.Reader
use Rattle.rules.specs.Rules
use Rattle.rules.specs.Answer
use Rattle.rules.specs.Examples
use Rattle.rules.specs.Examples.{Case, refusal, rows, all}

-- ---- inputs that other files read too, and their outputs; a wrong program writes other numbers in these

-- types 1 and 4, and a component whose type names 4; a third type that names 4
unfoldable pub two_types : List Raw
two_types =
    raw 7 0 0 0 0 0
    ∷ raw 1 12 0 0 0 0 ∷ raw 2 9 0 1 0 0
    ∷ raw 1 12 0 0 0 0 ∷ raw 2 9 0 4 0 0
    ∷ raw 1 6 0 0 0 0 ∷ raw 2 11 0 2 0 0 ∷ raw 7 0 0 2 0 0
    ∷ raw 1 12 0 0 0 0 ∷ raw 2 9 0 3 0 0 ∷ raw 3 9 1 4 0 70
    ∷ raw 8 0 0 0 0 0
    ∷ raw 1 12 0 0 0 0 ∷ raw 2 9 0 5 0 0 ∷ raw 3 9 1 4 0 71
    ∷ raw 8 0 0 0 0 0
    ∷ []

-- its output, with `n` for the alias's index and `m` for the last reference
unfoldable pub two_types_out : (n m : ℕ) → List Raw
two_types_out n m =
    raw 7 0 0 0 0 0
    ∷ raw 1 12 0 0 0 0 ∷ raw 2 9 0 1 0 0
    ∷ raw 1 12 0 0 0 0 ∷ raw 2 9 0 4 0 0
    ∷ raw 1 6 0 0 0 0 ∷ raw 2 11 0 2 0 0 ∷ raw 7 0 0 2 0 0
    ∷ raw 1 11 0 0 0 70 ∷ raw 2 9 0 2147483648 0 70 ∷ raw 5 9 0 1 n 70
    ∷ raw 1 12 0 0 0 0 ∷ raw 2 9 0 3 0 0 ∷ raw 3 9 0 0 0 70
    ∷ raw 8 0 0 0 0 0
    ∷ raw 1 12 0 0 0 0 ∷ raw 2 9 0 5 0 0 ∷ raw 3 9 0 m 0 71
    ∷ raw 8 0 0 0 0 0
    ∷ []

-- type 1 in the root, and again in component 2, whose component 3 names it
unfoldable pub twice_declared : List Raw
twice_declared =
    raw 7 0 0 0 0 0
    ∷ raw 1 12 0 0 0 0 ∷ raw 2 9 0 1 0 0
    ∷ raw 1 6 0 0 0 0 ∷ raw 2 11 0 2 0 0 ∷ raw 7 0 0 2 0 0
    ∷ raw 1 12 0 0 0 0 ∷ raw 2 9 0 1 0 0
    ∷ raw 1 6 0 0 0 0 ∷ raw 2 11 0 3 0 0 ∷ raw 7 0 0 3 0 0
    ∷ raw 1 12 0 0 0 0 ∷ raw 2 9 0 4 0 0 ∷ raw 3 9 1 1 0 70
    ∷ raw 8 0 0 0 0 0
    ∷ raw 8 0 0 0 0 0
    ∷ raw 8 0 0 0 0 0
    ∷ []

-- its output, with `count` for the alias's count
unfoldable pub twice_declared_out : (count : ℕ) → List Raw
twice_declared_out count =
    raw 7 0 0 0 0 0
    ∷ raw 1 12 0 0 0 0 ∷ raw 2 9 0 1 0 0
    ∷ raw 1 6 0 0 0 0 ∷ raw 2 11 0 2 0 0 ∷ raw 7 0 0 2 0 0
    ∷ raw 1 12 0 0 0 0 ∷ raw 2 9 0 1 0 0
    ∷ raw 1 6 0 0 0 0 ∷ raw 2 11 0 3 0 0 ∷ raw 7 0 0 3 0 0
    ∷ raw 1 11 0 0 0 70 ∷ raw 2 9 0 2147483648 0 70 ∷ raw 5 9 0 count 0 70
    ∷ raw 1 12 0 0 0 0 ∷ raw 2 9 0 4 0 0 ∷ raw 3 9 0 0 0 70
    ∷ raw 8 0 0 0 0 0
    ∷ raw 8 0 0 0 0 0
    ∷ raw 8 0 0 0 0 0
    ∷ []

-- type 1 in the root; in component 2 type 5, which names 1 and so has an alias before it; in its component 3 a type that names 5
unfoldable pub moved_type : List Raw
moved_type =
    raw 7 0 0 0 0 0
    ∷ raw 1 12 0 0 0 0 ∷ raw 2 9 0 1 0 0
    ∷ raw 1 6 0 0 0 0 ∷ raw 2 11 0 2 0 0 ∷ raw 7 0 0 2 0 0
    ∷ raw 1 12 0 0 0 0 ∷ raw 2 9 0 5 0 0 ∷ raw 3 9 1 1 0 70
    ∷ raw 1 6 0 0 0 0 ∷ raw 2 11 0 3 0 0 ∷ raw 7 0 0 3 0 0
    ∷ raw 1 12 0 0 0 0 ∷ raw 2 9 0 4 0 0 ∷ raw 3 9 1 5 0 71
    ∷ raw 8 0 0 0 0 0
    ∷ raw 8 0 0 0 0 0
    ∷ raw 8 0 0 0 0 0
    ∷ []

-- its output, with `index` for the second alias's index
unfoldable pub moved_type_out : (index : ℕ) → List Raw
moved_type_out index =
    raw 7 0 0 0 0 0
    ∷ raw 1 12 0 0 0 0 ∷ raw 2 9 0 1 0 0
    ∷ raw 1 6 0 0 0 0 ∷ raw 2 11 0 2 0 0 ∷ raw 7 0 0 2 0 0
    ∷ raw 1 11 0 0 0 70 ∷ raw 2 9 0 2147483648 0 70 ∷ raw 5 9 0 1 0 70
    ∷ raw 1 12 0 0 0 0 ∷ raw 2 9 0 5 0 0 ∷ raw 3 9 0 0 0 70
    ∷ raw 1 6 0 0 0 0 ∷ raw 2 11 0 3 0 0 ∷ raw 7 0 0 3 0 0
    ∷ raw 1 11 0 0 0 71 ∷ raw 2 9 0 2147483649 0 71 ∷ raw 5 9 0 1 index 71
    ∷ raw 1 12 0 0 0 0 ∷ raw 2 9 0 4 0 0 ∷ raw 3 9 0 0 0 71
    ∷ raw 8 0 0 0 0 0
    ∷ raw 8 0 0 0 0 0
    ∷ raw 8 0 0 0 0 0
    ∷ []

-- ---- the list

-- a form whose root has these rows between OPEN and CLOSE
root : List Raw → List Raw
root rs = raw 7 0 0 0 0 0 ∷ (rs ++ (raw 8 0 0 0 0 0 ∷ []))

-- `n` components one in another, inside the root
unfoldable pub nested : ℕ → List Raw
nested zero = []
nested (suc n) = raw 1 6 0 0 0 0 ∷ raw 2 11 0 0 0 0 ∷ raw 7 0 0 0 0 0 ∷ (nested n ++ (raw 8 0 0 0 0 0 ∷ []))

cases : List Case
cases =
    -- rows that are no form: a form without its last CLOSE; a row behind it; an inner OPEN with another name than its field's DECL
    record { input = raw 7 0 0 0 0 0 ∷ []; expected = refusal 4 1 }
    ∷ record { input = root [] ++ (raw 8 0 0 0 0 0 ∷ []); expected = refusal 4 2 }
    ∷ record { input = root (raw 1 6 0 0 0 0 ∷ raw 2 11 0 2 0 0 ∷ raw 7 0 0 3 0 0 ∷ raw 8 0 0 0 0 0 ∷ []); expected = refusal 4 3 }
    -- a REF that announces more PATHs than any form here could hold: the first row that is not a PATH
    ∷ record { input = root (raw 1 22 0 0 0 0 ∷ raw 2 8 0 0 0 0 ∷ raw 3 8 0 0 4000000000 0 ∷ raw 4 0 0 5 0 0 ∷ []); expected = refusal 4 5 }
    -- two PATHs where one is the most
    ∷ record { input = root (raw 1 3 0 0 0 0 ∷ raw 2 6 0 0 0 0 ∷ raw 3 0 0 0 2 0 ∷ raw 4 0 0 5 0 0 ∷ raw 4 0 0 6 0 0 ∷ []); expected = refusal 4 3 }
    -- field 12 that mixes its two alternatives
    ∷ record { input = root (raw 1 12 0 0 0 0 ∷ raw 2 9 0 0 0 0 ∷ raw 3 9 0 0 0 0 ∷ raw 6 0 0 1 0 0 ∷ []); expected = refusal 4 4 }
    -- field 20 with a DECL after its REF
    ∷ record { input = root (raw 1 20 0 0 0 0 ∷ raw 3 8 0 0 0 0 ∷ raw 2 12 0 0 0 0 ∷ []); expected = refusal 4 3 }
    -- a heap type is of space 9, and not of space 4
    ∷ record { input = root (raw 1 16 0 0 0 0 ∷ raw 2 9 0 1 0 0 ∷ raw 3 9 0 0 0 0 ∷ []); expected = rows (root (raw 1 16 0 0 0 0 ∷ raw 2 9 0 1 0 0 ∷ raw 3 9 0 0 0 0 ∷ [])) }
    ∷ record { input = root (raw 1 16 0 0 0 0 ∷ raw 2 9 0 1 0 0 ∷ raw 3 4 0 0 0 0 ∷ []); expected = refusal 4 3 }
    -- step A: a name twice in one space of one scope, here in one field
    ∷ record { input = root (raw 1 5 0 0 0 0 ∷ raw 2 4 0 1 0 10 ∷ raw 2 4 0 1 0 11 ∷ []); expected = refusal 6 11 }
    -- the nearest scope of a name; the final number of an item; not number 0 everywhere
    ∷ record { input = twice_declared; expected = rows (twice_declared_out 1) }
    ∷ record { input = moved_type; expected = rows (moved_type_out 1) }
    ∷ record { input = two_types; expected = rows (two_types_out 1 1) }
    -- a written number stays, though the alias inserted before the type that it counted to takes that number
    ∷ record {
      input = root (raw 1 12 0 0 0 0 ∷ raw 2 9 0 1 0 0 ∷ raw 1 6 0 0 0 0 ∷ raw 2 11 0 0 0 0 ∷ raw 7 0 0 0 0 0 ∷ raw 1 12 0 0 0 0 ∷ raw 2 9 0 3 0 0 ∷ raw 3 9 1 1 0 70 ∷ raw 1 12 0 0 0 0 ∷ raw 2 9 0 4 0 0 ∷ raw 3 9 0 0 0 71 ∷ raw 8 0 0 0 0 0 ∷ []);
      expected = rows (root (raw 1 12 0 0 0 0 ∷ raw 2 9 0 1 0 0 ∷ raw 1 6 0 0 0 0 ∷ raw 2 11 0 0 0 0 ∷ raw 7 0 0 0 0 0 ∷ raw 1 11 0 0 0 70 ∷ raw 2 9 0 2147483648 0 70 ∷ raw 5 9 0 1 0 70 ∷ raw 1 12 0 0 0 0 ∷ raw 2 9 0 3 0 0 ∷ raw 3 9 0 0 0 70 ∷ raw 1 12 0 0 0 0 ∷ raw 2 9 0 4 0 0 ∷ raw 3 9 0 0 0 71 ∷ raw 8 0 0 0 0 0 ∷ []));
    }
    -- two PATHs: an instance of the instance, then the func, each alias on the one before it
    ∷ record {
      input = root (raw 1 8 0 0 0 0 ∷ raw 2 10 0 1 0 0 ∷ raw 1 22 0 0 0 0 ∷ raw 2 8 0 0 0 0 ∷ raw 3 8 1 1 2 70 ∷ raw 4 0 0 5 0 0 ∷ raw 4 0 0 6 0 0 ∷ []);
      expected = rows (root (raw 1 8 0 0 0 0 ∷ raw 2 10 0 1 0 0 ∷ raw 1 9 0 0 0 70 ∷ raw 2 10 0 2147483648 0 70 ∷ raw 3 10 0 0 0 70 ∷ raw 9 0 0 5 0 0 ∷ raw 1 9 0 0 0 70 ∷ raw 2 8 0 2147483649 0 70 ∷ raw 3 10 0 1 0 70 ∷ raw 9 0 0 6 0 0 ∷ raw 1 22 0 0 0 0 ∷ raw 2 8 0 0 0 0 ∷ raw 3 8 0 0 0 70 ∷ []));
    }
    -- a path to a core module makes an alias of field 9
    ∷ record {
      input = root (raw 1 8 0 0 0 0 ∷ raw 2 10 0 1 0 0 ∷ raw 1 22 0 0 0 0 ∷ raw 2 7 0 0 0 0 ∷ raw 3 7 1 1 1 70 ∷ raw 4 0 0 5 0 0 ∷ []);
      expected = rows (root (raw 1 8 0 0 0 0 ∷ raw 2 10 0 1 0 0 ∷ raw 1 9 0 0 0 70 ∷ raw 2 7 0 2147483648 0 70 ∷ raw 3 10 0 0 0 70 ∷ raw 9 0 0 5 0 0 ∷ raw 1 22 0 0 0 0 ∷ raw 2 7 0 0 0 0 ∷ raw 3 7 0 0 0 70 ∷ []));
    }
    -- inserted aliases are resolved before the operands of their field: unknown is the instance at 2, not the component at 1
    ∷ record { input = root (raw 1 7 0 0 0 0 ∷ raw 2 10 0 0 0 0 ∷ raw 3 11 1 5 0 1 ∷ raw 3 8 1 6 1 2 ∷ raw 4 0 0 9 0 0 ∷ []); expected = refusal 9 2 }
    -- k counts the root's insertions before those of the component in it, though its field comes first
    ∷ record {
      input = root (raw 1 12 0 0 0 0 ∷ raw 2 9 0 1 0 0 ∷ raw 1 8 0 0 0 0 ∷ raw 2 10 0 2 0 0 ∷ raw 1 6 0 0 0 0 ∷ raw 2 11 0 0 0 0 ∷ raw 7 0 0 0 0 0 ∷ raw 1 13 0 0 0 0 ∷ raw 2 9 0 0 0 0 ∷ raw 3 9 1 1 0 70 ∷ raw 8 0 0 0 0 0 ∷ raw 1 22 0 0 0 0 ∷ raw 2 8 0 0 0 0 ∷ raw 3 8 1 2 1 71 ∷ raw 4 0 0 5 0 0 ∷ []);
      expected = rows (root (raw 1 12 0 0 0 0 ∷ raw 2 9 0 1 0 0 ∷ raw 1 8 0 0 0 0 ∷ raw 2 10 0 2 0 0 ∷ raw 1 6 0 0 0 0 ∷ raw 2 11 0 0 0 0 ∷ raw 7 0 0 0 0 0 ∷ raw 1 11 0 0 0 70 ∷ raw 2 9 0 2147483649 0 70 ∷ raw 5 9 0 1 0 70 ∷ raw 1 13 0 0 0 0 ∷ raw 2 9 0 0 0 0 ∷ raw 3 9 0 0 0 70 ∷ raw 8 0 0 0 0 0 ∷ raw 1 9 0 0 0 71 ∷ raw 2 8 0 2147483648 0 71 ∷ raw 3 10 0 0 0 71 ∷ raw 9 0 0 5 0 0 ∷ raw 1 22 0 0 0 0 ∷ raw 2 8 0 0 0 0 ∷ raw 3 8 0 0 0 71 ∷ []));
    }
    -- an OUTER whose scope no open one is named; two CASEs of one name
    ∷ record { input = root (raw 1 11 0 0 0 50 ∷ raw 2 9 0 1 0 0 ∷ raw 5 9 1 7 0 51 ∷ []); expected = refusal 10 50 }
    ∷ record { input = root (raw 1 12 0 0 0 0 ∷ raw 2 9 0 0 0 0 ∷ raw 6 0 0 1 0 60 ∷ raw 6 0 0 1 0 61 ∷ []); expected = refusal 12 61 }
    -- an export with an ascribed type: of two references the first is the type's, which is looked up first
    ∷ record { input = root (raw 1 22 1 0 0 0 ∷ raw 2 9 0 1 0 0 ∷ raw 3 9 1 7 0 3 ∷ raw 3 9 1 8 0 4 ∷ []); expected = refusal 9 3 }
    ∷ record { input = root (raw 1 22 1 0 0 0 ∷ raw 2 9 0 1 0 0 ∷ raw 3 9 1 1 0 3 ∷ raw 3 9 1 8 0 4 ∷ []); expected = refusal 9 4 }
    -- and its alias is inserted first
    ∷ record {
      input = root (raw 1 12 0 0 0 0 ∷ raw 2 9 0 1 0 0 ∷ raw 1 6 0 0 0 0 ∷ raw 2 11 0 0 0 0 ∷ raw 7 0 0 0 0 0 ∷ raw 1 22 1 0 0 0 ∷ raw 2 9 0 0 0 0 ∷ raw 3 9 1 1 0 3 ∷ raw 3 9 1 1 0 4 ∷ raw 8 0 0 0 0 0 ∷ []);
      expected = rows (root (raw 1 12 0 0 0 0 ∷ raw 2 9 0 1 0 0 ∷ raw 1 6 0 0 0 0 ∷ raw 2 11 0 0 0 0 ∷ raw 7 0 0 0 0 0 ∷ raw 1 11 0 0 0 3 ∷ raw 2 9 0 2147483648 0 3 ∷ raw 5 9 0 1 0 3 ∷ raw 1 11 0 0 0 4 ∷ raw 2 9 0 2147483649 0 4 ∷ raw 5 9 0 1 0 4 ∷ raw 1 22 1 0 0 0 ∷ raw 2 9 0 0 0 0 ∷ raw 3 9 0 0 0 3 ∷ raw 3 9 0 1 0 4 ∷ raw 8 0 0 0 0 0 ∷ []));
    }
    -- one alone is the export's own and may have PATHs, and then no other follows; without any the form ends early
    ∷ record { input = root (raw 1 22 1 0 0 0 ∷ raw 2 9 0 0 0 0 ∷ raw 3 9 0 0 0 0 ∷ []); expected = rows (root (raw 1 22 1 0 0 0 ∷ raw 2 9 0 0 0 0 ∷ raw 3 9 0 0 0 0 ∷ [])) }
    ∷ record {
      input = root (raw 1 8 0 0 0 0 ∷ raw 2 10 0 1 0 0 ∷ raw 1 22 1 0 0 0 ∷ raw 2 9 0 0 0 0 ∷ raw 3 9 1 1 1 70 ∷ raw 4 0 0 5 0 0 ∷ []);
      expected = rows (root (raw 1 8 0 0 0 0 ∷ raw 2 10 0 1 0 0 ∷ raw 1 9 0 0 0 70 ∷ raw 2 9 0 2147483648 0 70 ∷ raw 3 10 0 0 0 70 ∷ raw 9 0 0 5 0 0 ∷ raw 1 22 1 0 0 0 ∷ raw 2 9 0 0 0 0 ∷ raw 3 9 0 0 0 70 ∷ []));
    }
    ∷ record { input = root (raw 1 22 1 0 0 0 ∷ raw 2 9 0 0 0 0 ∷ raw 3 9 0 0 1 0 ∷ raw 4 0 0 5 0 0 ∷ raw 3 9 0 0 0 0 ∷ []); expected = refusal 4 5 }
    ∷ record { input = root (raw 1 22 1 0 0 0 ∷ raw 2 9 0 0 0 0 ∷ []); expected = refusal 4 3 }
    -- a value needs no type either, a func does; e above 1
    ∷ record { input = root (raw 1 22 1 0 0 0 ∷ raw 2 12 0 0 0 0 ∷ raw 3 12 0 0 0 0 ∷ []); expected = rows (root (raw 1 22 1 0 0 0 ∷ raw 2 12 0 0 0 0 ∷ raw 3 12 0 0 0 0 ∷ [])) }
    ∷ record { input = root (raw 1 22 1 0 0 0 ∷ raw 2 12 0 0 0 0 ∷ raw 3 9 0 0 0 0 ∷ []); expected = refusal 4 4 }
    ∷ record { input = root (raw 1 22 1 0 0 0 ∷ raw 2 8 0 0 0 0 ∷ raw 3 8 0 0 0 0 ∷ []); expected = refusal 4 3 }
    ∷ record { input = root (raw 1 22 2 0 0 0 ∷ raw 2 8 0 0 0 0 ∷ []); expected = refusal 4 1 }
    ∷ []

all_right : all base (record { version = version1; rules = today }) cases ≡ true
unfolding cases root two_types two_types_out twice_declared twice_declared_out moved_type moved_type_out Examples.all Examples.right Examples.agrees Examples.input_bytes Examples.raws_bytes Tools.computes Rows.computes Tree.computes Shapes.computes Reader.computes Rules.computes Answer.computes
all_right = refl

-- 32 scopes one in another are read, 33 are refused with 5 at the last OPEN
depth_right :
    all base (record { version = version1; rules = today })
    (record { input = root (nested 31); expected = rows (root (nested 31)) } ∷ record { input = root (nested 32); expected = refusal 5 96 } ∷ []) ≡ true
unfolding root nested Examples.all Examples.right Examples.agrees Examples.input_bytes Examples.raws_bytes Tools.computes Rows.computes Tree.computes Shapes.computes Reader.computes Rules.computes Answer.computes
depth_right = refl

-- ---- refusals 1 to 3, on bytes

-- an input, the length of the output buffer, and the refusal
record Header : Type 0 where
  input : List ℕ
  room : ℕ
  refusal_number : ℕ

-- a header of these six bytes, with this row count
header : List ℕ → (count : ℕ) → List ℕ
header mark count = mark ++ bytes 2 count

wnt : List ℕ
wnt = 87 ∷ 78 ∷ 84 ∷ 1 ∷ 0 ∷ 0 ∷ []

-- the empty form, OPEN and CLOSE
empty : List ℕ
empty = Examples.raws_bytes (raw 7 0 0 0 0 0 ∷ raw 8 0 0 0 0 0 ∷ [])

headers : List Header
headers =
    -- no byte; one byte short of a header; another mark, version, rule set
    record { input = []; room = 0; refusal_number = 1 }
    ∷ record { input = take 7 (header wnt 2); room = 136; refusal_number = 1 }
    ∷ record { input = header (87 ∷ 78 ∷ 85 ∷ 1 ∷ 0 ∷ 0 ∷ []) 2 ++ empty; room = 136; refusal_number = 1 }
    ∷ record { input = header (87 ∷ 78 ∷ 84 ∷ 2 ∷ 0 ∷ 0 ∷ []) 2 ++ empty; room = 136; refusal_number = 1 }
    ∷ record { input = header (87 ∷ 78 ∷ 84 ∷ 1 ∷ 0 ∷ 1 ∷ []) 2 ++ empty; room = 136; refusal_number = 1 }
    -- no row; too many; one more than there are; a byte too much
    ∷ record { input = header wnt 0; room = 136; refusal_number = 2 }
    ∷ record { input = header wnt 1024 ++ replicate 16384 0; room = 136; refusal_number = 2 }
    ∷ record { input = header wnt 3 ++ empty; room = 200; refusal_number = 2 }
    ∷ record { input = header wnt 2 ++ (empty ++ (0 ∷ [])); room = 136; refusal_number = 2 }
    -- an output buffer one byte short
    ∷ record { input = header wnt 2 ++ empty; room = 135; refusal_number = 3 }
    ∷ []

headers_all : List Header → Bool
headers_all [] = true
headers_all (h ∷ hs) = Examples.agrees (Answer.answer base h.input h.room) (refusal h.refusal_number 0) && headers_all hs

headers_right : headers_all headers ≡ true
unfolding header wnt empty headers headers_all Examples.agrees Examples.raws_bytes Tools.computes Rows.computes Tree.computes Shapes.computes Reader.computes Rules.computes Answer.computes
headers_right = refl
