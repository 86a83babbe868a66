-- The planner on forms whose references share aliases, and on P1 to P10: the rows, and that the checker says yes to them.
use Rattle.std.specs.Prelude.{◌≡◌, refl, Bool, true, false, ◌&&◌, List, [], ◌∷◌, ◌++◌, ℕ, zero, suc, ◌+◌, ◌*◌, length, replicate}
use Rattle.rules.specs.Tools
use Rattle.rules.specs.Versions
use Rattle.rules.specs.Versions.{Setting, version1, version2, today, newer}
use Rattle.rules.specs.Rows
use Rattle.rules.specs.Rows.{Raw, raw}
use Rattle.rules.specs.Tree
use Rattle.rules.specs.Shapes
use Rattle.rules.specs.Reader
use Rattle.rules.specs.Rules
use Rattle.rules.specs.Answer
use Rattle.rules.specs.Answer.{Answer, accepted, same_numbers, form_bytes}
use Rattle.rules.specs.Readings
use Rattle.read_form.specs.ReadForm
use Rattle.checking.specs.Check
use Rattle.checking.specs.Check.{Verdict, yes, verdict}
use Rattle.sharing.specs.Sharing
use Rattle.sharing.specs.Sharing.{shared, shared_output}
use Rattle.rules.specs.Examples
use Rattle.rules.specs.Examples.{Case, Expected, refusal, rows, input_bytes, agrees}

abbrev first : Setting
first = record { version = version1; rules = today }

abbrev newest : Setting
newest = record { version = version2; rules = newer }

unfoldable is_yes : Verdict → Bool
is_yes (Verdict.refused n p more) = false
is_yes (Verdict.no c r) = false
is_yes yes = true

unfoldable is_rows : Answer → Bool
is_rows (Answer.refused n p more) = false
is_rows (accepted rs) = true

unfoldable passes : Setting → List ℕ → Answer → Bool
passes s input (Answer.refused n p more) = true
passes s input (accepted rs) = is_yes (verdict Versions.all input (form_bytes s rs))

-- the rows are those expected, and the checker accepts them
unfoldable right : Setting → Case → Bool
right s c =
    let input = input_bytes s c.input in
    let a = shared Versions.all input (s.version.header + 64 * length c.input) in
    agrees a c.expected && passes s input a

unfoldable all : Setting → List Case → Bool
all s [] = true
all s (c ∷ cs) = right s c && all s cs

-- ---- rows

unfoldable root : List Raw → List Raw
root rs = raw 7 0 0 0 0 0 ∷ (rs ++ (raw 8 0 0 0 0 0 ∷ []))

unfoldable component : (name : ℕ) → List Raw → List Raw
component name rs = raw 1 6 0 0 0 0 ∷ raw 2 11 0 name 0 0 ∷ raw 7 0 0 name 0 0 ∷ (rs ++ (raw 8 0 0 0 0 0 ∷ []))

-- a type with these operands
unfoldable type : (name : ℕ) → List Raw → List Raw
type name rs = raw 1 12 0 0 0 0 ∷ raw 2 9 0 name 0 0 ∷ rs

unfoldable outer_alias : (name up at z : ℕ) → List Raw
outer_alias name up at z = raw 1 11 0 0 0 z ∷ raw 2 9 0 name 0 z ∷ raw 5 9 0 up at z ∷ []

-- this many references with the same operand, at places from z on
unfoldable many : (count e x z : ℕ) → List Raw
many zero e x z = []
many (suc count) e x z = raw 3 9 e x 0 z ∷ many count e x (suc z)

runs : List Case
runs =
    -- P9: two references, one alias
    record {
      input = root (type 1 [] ++ component 0 (type 0 (many 2 1 1 70)));
      expected = rows (root (type 1 [] ++ component 0 (outer_alias 2147483648 1 0 70 ++ type 0 (many 2 0 0 70))));
    }
    -- in two fields: before the first one that needs it
    ∷ record {
      input = root (type 1 [] ++ component 0 (type 5 [] ++ (type 6 (many 1 1 1 70) ++ type 7 (many 1 1 1 71))));
      expected = rows (root (type 1 [] ++ component 0 (type 5 [] ++ (outer_alias 2147483648 1 0 70 ++ (type 6 (many 1 0 1 70) ++ type 7 (many 1 0 1 71))))));
    }
    -- nested scopes: each scope has its own alias; the outer scope's insertions come first
    ∷ record {
      input = root (type 1 [] ++ component 2 (component 3 (type 4 (many 2 1 1 80)) ++ type 5 (many 2 1 1 90)));
      expected = rows (root (type 1 [] ++ component 2 (component 3 (outer_alias 2147483649 2 0 80 ++ type 4 (many 2 0 0 80)) ++ (outer_alias 2147483648 1 0 90 ++ type 5 (many 2 0 0 90)))));
    }
    -- two names, in turn: operand order
    ∷ record {
      input = root (type 1 [] ++ (type 2 [] ++ component 0 (type 0 (many 1 1 2 70 ++ (many 1 1 1 71 ++ (many 1 1 2 72 ++ many 1 1 1 73))))));
      expected = rows (root (type 1 [] ++ (type 2 [] ++ component 0 (outer_alias 2147483648 1 1 70 ++ (outer_alias 2147483649 1 0 71 ++ type 0 (many 1 0 0 70 ++ (many 1 0 1 71 ++ (many 1 0 0 72 ++ many 1 0 1 73))))))));
    }
    -- a written number keeps its digits
    ∷ record {
      input = root (type 1 [] ++ component 0 (type 0 (many 1 1 1 70 ++ (many 1 0 0 71 ++ many 1 1 1 72))));
      expected = rows (root (type 1 [] ++ component 0 (outer_alias 2147483648 1 0 70 ++ type 0 (many 1 0 0 70 ++ (many 1 0 0 71 ++ many 1 0 0 72)))));
    }
    -- paths are not shared, and count as insertions: a module of the outer scope, an instance here, its export twice, the module again
    ∷ record {
      input = root (raw 1 1 0 0 0 0 ∷ raw 2 7 0 1 0 0 ∷ component 0 (
          raw 1 8 0 0 0 0 ∷ raw 2 10 0 2 0 0 ∷
          raw 1 8 0 0 0 0 ∷ raw 2 10 0 3 0 0 ∷ raw 3 7 1 2 1 60 ∷ raw 4 0 0 9 0 0 ∷ raw 3 7 1 1 0 61 ∷ raw 3 7 1 2 1 62 ∷ raw 4 0 0 9 0 0 ∷ raw 3 7 1 1 0 63 ∷ []));
      expected = rows (root (raw 1 1 0 0 0 0 ∷ raw 2 7 0 1 0 0 ∷ component 0 (
          raw 1 8 0 0 0 0 ∷ raw 2 10 0 2 0 0 ∷
          raw 1 9 0 0 0 60 ∷ raw 2 7 0 2147483648 0 60 ∷ raw 3 10 0 0 0 60 ∷ raw 9 0 0 9 0 0 ∷
          raw 1 11 0 0 0 61 ∷ raw 2 7 0 2147483649 0 61 ∷ raw 5 7 0 1 0 61 ∷
          raw 1 9 0 0 0 62 ∷ raw 2 7 0 2147483650 0 62 ∷ raw 3 10 0 0 0 62 ∷ raw 9 0 0 9 0 0 ∷
          raw 1 8 0 0 0 0 ∷ raw 2 10 0 3 0 0 ∷ raw 3 7 0 0 0 60 ∷ raw 3 7 0 1 0 61 ∷ raw 3 7 0 2 0 62 ∷ raw 3 7 0 1 0 63 ∷ [])));
    }
    -- the same name in two spaces is two declarations
    ∷ record {
      input = root (type 1 [] ++ (component 1 [] ++ component 0 (type 0 (many 1 1 1 70) ++ (raw 1 8 0 0 0 0 ∷ raw 2 10 0 0 0 0 ∷ raw 3 11 1 1 0 71 ∷ raw 3 9 1 1 0 72 ∷ []))));
      expected = rows (root (type 1 [] ++ (component 1 [] ++ component 0 (outer_alias 2147483648 1 0 70 ++ (type 0 (many 1 0 0 70)
          ++ (raw 1 11 0 0 0 71 ∷ raw 2 11 0 2147483649 0 71 ∷ raw 5 11 0 1 0 71 ∷ raw 1 8 0 0 0 0 ∷ raw 2 10 0 0 0 0 ∷ raw 3 11 0 0 0 71 ∷ raw 3 9 0 0 0 72 ∷ []))))));
    }
    -- an inner scope reaches past an alias of the scope around it
    ∷ record {
      input = root (type 1 [] ++ component 2 (type 5 (many 1 1 1 90) ++ component 3 (type 4 (many 2 1 1 80))));
      expected = rows (root (type 1 [] ++ component 2 (outer_alias 2147483648 1 0 90 ++ (type 5 (many 1 0 0 90) ++ component 3 (outer_alias 2147483649 2 0 80 ++ type 4 (many 2 0 0 80))))));
    }
    -- refusals are those of the input
    ∷ record { input = root (type 1 (many 1 1 2 70)); expected = refusal 9 70 }
    ∷ record { input = root (type 1 [] ++ component 0 (type 0 (many 2 1 1 70 ++ many 1 1 2 99))); expected = refusal 9 99 }
    ∷ record { input = root (type 1 [] ++ type 1 []); expected = refusal 6 0 }
    ∷ record { input = raw 7 0 0 0 0 0 ∷ []; expected = refusal 4 1 }
    ∷ []

all_right : all first runs ≡ true
unfolding runs all right passes is_yes root component type outer_alias many agrees input_bytes Examples.raws_bytes Tools.computes Rows.computes Tree.computes Shapes.computes Reader.computes Rules.computes Answer.computes Readings.computes ReadForm.computes Check.computes Sharing.computes
all_right = refl

-- forty references, one alias
forty :
    right first (record {
      input = root (type 1 [] ++ component 0 (type 0 (many 40 1 1 100)));
      expected = rows (root (type 1 [] ++ component 0 (outer_alias 2147483648 1 0 100 ++ type 0 (many 40 0 0 100))));
    }) ≡ true
unfolding right passes is_yes root component type outer_alias many agrees input_bytes Examples.raws_bytes Tools.computes Rows.computes Tree.computes Shapes.computes Reader.computes Rules.computes Answer.computes Readings.computes ReadForm.computes Check.computes Sharing.computes
forty = refl

-- The rules of the newer tools: where all that is meant stands earlier, the same; a name that is declared later is refused, with 13.
newer_right : all newest (runs ++ (record { input = root (component 0 (type 0 (many 2 1 1 70)) ++ type 1 []); expected = refusal 13 70 } ∷ [])) ≡ true
unfolding runs all right passes is_yes root component type outer_alias many agrees input_bytes Examples.raws_bytes Tools.computes Rows.computes Tree.computes Shapes.computes Reader.computes Rules.computes Answer.computes Readings.computes ReadForm.computes Check.computes Sharing.computes
newer_right = refl

-- P1 to P10: the same refusals, and rows that the checker accepts
unfoldable like_own : Answer → (input : List ℕ) → Expected → Bool
like_own a input (refusal number place) = agrees a (refusal number place)
like_own a input (rows rs) = is_rows a && passes first input a

unfoldable ten : List Case → Bool
ten [] = true
ten (c ∷ cs) = (let input = input_bytes first c.input in like_own (shared Versions.all input (8 + 64 * length c.input)) input c.expected) && ten cs

ten_right : ten Examples.cases ≡ true
unfolding ten like_own is_rows passes is_yes agrees input_bytes Examples.cases Examples.raws_bytes Tools.computes Rows.computes Tree.computes Shapes.computes Reader.computes Rules.computes Answer.computes Readings.computes ReadForm.computes Check.computes Sharing.computes
ten_right = refl

-- ---- the whole output buffer of 800 bytes, of which 24 lie beyond the form's part

-- two references from inside to a type of this name
unfoldable pair : (name : ℕ) → List Raw
pair name = root (type 1 [] ++ component 0 (type 0 (many 2 1 name 70)))

unfoldable buffer : List Raw → List ℕ
buffer rs = shared_output Versions.all (input_bytes first rs) (replicate 800 7)

-- Accepted: a form with one alias, whose header says 15 rows, and zeros; refused by the steps: zeros; cut off before its last row: as it was.
buffers_right :
    (same_numbers (buffer (pair 1))
    (input_bytes first (root (type 1 [] ++ component 0 (outer_alias 2147483648 1 0 70 ++ type 0 (many 2 0 0 70)))) ++ (replicate 528 0 ++ replicate 24 7))
    && (same_numbers (buffer (pair 2)) (replicate 776 0 ++ replicate 24 7)
    && same_numbers (buffer (raw 7 0 0 0 0 0 ∷ [])) (replicate 800 7))) ≡ true
unfolding buffer pair root component type outer_alias many input_bytes Examples.raws_bytes Tools.computes Rows.computes Tree.computes Shapes.computes Reader.computes Rules.computes Answer.computes Readings.computes ReadForm.computes Check.computes Sharing.computes
buffers_right = refl
