-- The checker on P1 to P10 and their outputs, and on claims that are wrong: for each the condition and the row.
use Rattle.std.specs.Prelude.{◌≡◌, refl, Bool, true, false, ◌&&◌, List, [], ◌∷◌, ◌++◌, ℕ, eqb}
use Rattle.rules.specs.Tools
use Rattle.rules.specs.Versions
use Rattle.rules.specs.Versions.{Setting, version1, version2, today, newer}
use Rattle.rules.specs.Rows
use Rattle.rules.specs.Rows.{Raw, raw}
use Rattle.rules.specs.Tree
use Rattle.rules.specs.Shapes
use Rattle.rules.specs.Reader
use Rattle.rules.specs.Rules
use Rattle.rules.specs.Answer
use Rattle.rules.specs.Readings
use Rattle.read_form.specs.ReadForm
use Rattle.checking.specs.Check
use Rattle.checking.specs.Check.{Verdict, refused, no, yes, verdict}
use Rattle.rules.specs.Examples
use Rattle.rules.specs.Examples.{Case, Expected, refusal, rows, input_bytes}
use Rattle.rules.specs.FurtherRuns.{two_types, two_types_out, twice_declared, twice_declared_out}

-- ---- runs

unfoldable same_verdict : Verdict → Verdict → Bool
same_verdict (refused n p more) (refused n' p' more') = eqb n n' && eqb p p'
same_verdict (refused n p more) (no c r) = false
same_verdict (refused n p more) yes = false
same_verdict (no c r) (refused n p more) = false
same_verdict (no c r) (no c' r') = eqb c c' && eqb r r'
same_verdict (no c r) yes = false
same_verdict yes (refused n p more) = false
same_verdict yes (no c r) = false
same_verdict yes yes = true

abbrev first : Setting
first = record { version = version1; rules = today }

abbrev second : Setting
second = record { version = version2; rules = today }

abbrev newest : Setting
newest = record { version = version2; rules = newer }

-- an input, a claim, and the verdict
record Run : Type 0 where
  input : List Raw
  claim : List Raw
  expected : Verdict

-- both forms have a header of setting `s`
unfoldable right : Setting → Run → Bool
right s r = same_verdict (verdict Versions.all (input_bytes s r.input) (input_bytes s r.claim)) r.expected

unfoldable all : Setting → List Run → Bool
all s [] = true
all s (r ∷ rs) = right s r && all s rs

-- ---- P1 to P10: what is written is accepted, and what is refused is answered with that refusal, whatever is claimed

unfoldable own : Case → Expected → Run
own c (refusal number place) = record { input = c.input; claim = []; expected = refused number place [] }
own c (rows rs) = record { input = c.input; claim = rs; expected = yes }

unfoldable owns : List Case → List Run
owns [] = []
owns (c ∷ cs) = own c c.expected ∷ owns cs

own_outputs : all first (owns Examples.cases) ≡ true
unfolding all right same_verdict own owns Examples.cases input_bytes Examples.raws_bytes Tools.computes Rows.computes Tree.computes Shapes.computes Reader.computes Rules.computes Answer.computes ReadForm.computes Readings.computes Check.computes
own_outputs = refl

-- ---- parts of forms

root : List Raw → List Raw
root rs = raw 7 0 0 0 0 0 ∷ (rs ++ (raw 8 0 0 0 0 0 ∷ []))

component : (name : ℕ) → List Raw → List Raw
component name rs = raw 1 6 0 0 0 0 ∷ raw 2 11 0 name 0 0 ∷ raw 7 0 0 name 0 0 ∷ (rs ++ (raw 8 0 0 0 0 0 ∷ []))

-- a type, and its references
type : (name : ℕ) → List Raw → List Raw
type name rs = raw 1 12 0 0 0 0 ∷ raw 2 9 0 name 0 0 ∷ rs

-- an outer alias of a type, an alias of an export of an instance
outer_alias : (name d n z : ℕ) → List Raw
outer_alias name d n z = raw 1 11 0 0 0 z ∷ raw 2 9 0 name 0 z ∷ raw 5 9 0 d n z ∷ []

export_alias : (space name n export z : ℕ) → List Raw
export_alias space name n export z = raw 1 9 0 0 0 z ∷ raw 2 space 0 name 0 z ∷ raw 3 10 0 n 0 z ∷ raw 9 0 0 export 0 0 ∷ []

-- P1, with this between the OPEN and the CLOSE of its component
p1 : List Raw → List Raw
p1 rs = root (type 1 [] ++ component 2 rs)

p1_in : List Raw
p1_in = p1 (type 3 (raw 3 9 1 1 0 70 ∷ []))

p9_in : List Raw
p9_in = root (type 1 [] ++ component 0 (type 0 (raw 3 9 1 1 0 70 ∷ raw 3 9 1 1 0 71 ∷ [])))

-- type 1; in component 2 type 5, which names it; in its component 3 type 4, which names it too
nested_in : List Raw
nested_in =
    root (type 1 [] ++ component 2 (type 5 (raw 3 9 1 1 0 70 ∷ []) ++ component 3 (type 4 (raw 3 9 1 1 0 71 ∷ []))))

-- with `d` for the count and `n` for the index of the inner alias
nested_out : (d n : ℕ) → List Raw
nested_out d n =
    root (type 1 [] ++ component 2 (outer_alias 2147483648 1 0 70 ++ (type 5 (raw 3 9 0 0 0 70 ∷ []) ++ component 3 (outer_alias 2147483649 d n 71 ++ type 4 (raw 3 9 0 0 0 71 ∷ [])))))

-- instance 6, and an export of what two PATHs lead to
paths_in : List Raw
paths_in =
    root (raw 1 21 0 0 0 0 ∷ raw 2 10 0 6 0 0 ∷ raw 3 9 0 0 0 0 ∷ raw 1 22 0 0 0 0 ∷ raw 2 8 0 0 0 0 ∷ raw 3 8 1 6 2 9 ∷ raw 4 0 0 5 0 0 ∷ raw 4 0 0 7 0 0 ∷ [])

-- with these export names, and these instances
paths_out : (p q m n : ℕ) → List Raw
paths_out p q m n =
    root (raw 1 21 0 0 0 0 ∷ raw 2 10 0 6 0 0 ∷ raw 3 9 0 0 0 0 ∷ (export_alias 10 2147483648 m p 9 ++ (export_alias 8 2147483649 n q 9 ++ (raw 1 22 0 0 0 0 ∷ raw 2 8 0 0 0 0 ∷ raw 3 8 0 0 0 9 ∷ []))))

-- types 4 and 5, and an outer alias of an item of this scope; `e` says what of it is a name
outer_run : (e n : ℕ) → List Raw
outer_run e n = root (type 4 [] ++ (type 5 [] ++ (raw 1 11 0 0 0 60 ∷ raw 2 9 0 6 0 0 ∷ raw 5 9 e 0 n 61 ∷ [])))

-- ---- claims

names_runs : List Run
names_runs =
    -- two decoders: as it is; the alias is of the other one; the last reference is to the other one
    record { input = two_types; claim = two_types_out 1 1; expected = yes }
    ∷ record { input = two_types; claim = two_types_out 0 1; expected = no 4 13 }
    ∷ record { input = two_types; claim = two_types_out 1 0; expected = no 4 17 }
    -- a type of two scopes: the nearer one; an alias one scope too far
    ∷ record { input = twice_declared; claim = twice_declared_out 1; expected = yes }
    ∷ record { input = twice_declared; claim = twice_declared_out 2; expected = no 4 16 }
    -- an alias of the root's type; one that goes through the alias of the scope in between
    ∷ record { input = nested_in; claim = nested_out 2 0; expected = yes }
    ∷ record { input = nested_in; claim = nested_out 1 0; expected = no 4 20 }
    -- one alias for two references; behind them, with another name and place, and with one that nobody uses
    ∷ record { input = p9_in; claim = root (type 1 [] ++ component 0 (outer_alias 2147483648 1 0 70 ++ type 0 (raw 3 9 0 0 0 70 ∷ raw 3 9 0 0 0 71 ∷ []))); expected = yes }
    ∷ record { input = p9_in; claim = root (type 1 [] ++ component 0 (type 0 (raw 3 9 0 1 0 70 ∷ raw 3 9 0 1 0 71 ∷ []) ++ (outer_alias 4294967295 1 0 5 ++ outer_alias 2147483648 7 7 5))); expected = yes }
    -- a name left; a written number that followed its item
    ∷ record { input = root (type 1 (raw 3 9 1 2 0 9 ∷ []) ++ type 2 []); claim = root (type 1 (raw 3 9 1 2 0 9 ∷ []) ++ type 2 []); expected = no 4 3 }
    ∷ record { input = root (type 1 [] ++ type 2 (raw 3 9 0 0 0 9 ∷ [])); claim = root (outer_alias 2147483648 0 1 9 ++ (type 1 [] ++ type 2 (raw 3 9 0 1 0 9 ∷ []))); expected = no 4 8 }
    ∷ []

paths_runs : List Run
paths_runs =
    -- two PATHs: as it is; the export names exchanged; one alias too few; an alias on itself
    record { input = paths_in; claim = paths_out 5 7 0 1; expected = yes }
    ∷ record { input = paths_in; claim = paths_out 7 5 0 1; expected = no 4 14 }
    ∷ record { input = paths_in; claim = paths_out 5 7 0 0; expected = no 4 14 }
    ∷ record { input = paths_in; claim = paths_out 5 7 1 1; expected = no 4 14 }
    -- a named OUTER: as it is; another number
    ∷ record { input = outer_run 2 5; claim = outer_run 0 1; expected = yes }
    ∷ record { input = outer_run 2 5; claim = outer_run 0 0; expected = no 4 7 }
    ∷ []

form_runs : List Run
form_runs =
    -- condition 1: the last CLOSE is missing; a row that cannot be read apart; no row at all; the input's refusal comes before it
    record { input = p1_in; claim = raw 7 0 0 0 0 0 ∷ []; expected = no 1 1 }
    ∷ record { input = p1_in; claim = p1 (raw 10 0 0 0 0 0 ∷ []); expected = no 1 6 }
    ∷ record { input = p1_in; claim = []; expected = no 1 0 }
    ∷ record { input = root (type 1 [] ++ type 1 []); claim = []; expected = refused 6 0 [] }
    -- condition 2: another place in a field of the input; a field dropped; a scope of another name; a PATH, also in an added field
    ∷ record { input = p1_in; claim = p1 (outer_alias 2147483648 1 0 70 ++ type 3 (raw 3 9 0 0 0 71 ∷ [])); expected = no 2 11 }
    ∷ record { input = p1_in; claim = root (component 2 (outer_alias 2147483648 1 0 70 ++ type 3 (raw 3 9 0 0 0 70 ∷ []))); expected = no 2 1 }
    ∷ record { input = p1_in; claim = root (type 1 [] ++ component 4 (type 3 (raw 3 9 0 0 0 70 ∷ []))); expected = no 2 4 }
    ∷ record { input = root []; claim = root (raw 1 22 0 0 0 0 ∷ raw 2 8 0 2147483648 0 0 ∷ raw 3 8 0 0 1 0 ∷ raw 4 0 0 5 0 0 ∷ []); expected = no 2 4 }
    -- condition 3: an added field that is no alias; an added name twice; an added alias with a name in it
    ∷ record { input = p1_in; claim = root (type 2147483657 [] ++ (type 1 [] ++ component 2 (type 3 (raw 3 9 0 0 0 70 ∷ [])))); expected = no 3 1 }
    ∷ record { input = p1_in; claim = p1 (outer_alias 2147483648 1 0 70 ++ (outer_alias 2147483648 1 0 70 ++ type 3 (raw 3 9 0 0 0 70 ∷ []))); expected = no 3 10 }
    ∷ record { input = p1_in; claim = p1 (raw 1 11 0 0 0 70 ∷ raw 2 9 0 2147483648 0 70 ∷ raw 5 9 2 1 1 70 ∷ type 3 (raw 3 9 0 0 0 70 ∷ [])); expected = no 3 8 }
    ∷ []

-- two core types of one field, the second of this name
several : (name : ℕ) → List Raw
several name = raw 1 5 0 0 0 0 ∷ raw 2 4 0 1 0 0 ∷ raw 2 4 0 name 0 0 ∷ []

several_runs : List Run
several_runs =
    -- a field with several DECLs: as it is; one of them fresh, so that all of it is added and the input's field is missing; such a field besides
    record { input = root (several 2); claim = root (several 2); expected = yes }
    ∷ record { input = root (several 2); claim = root (several 2147483648); expected = no 2 4 }
    ∷ record { input = root []; claim = root (several 2147483648); expected = no 3 1 }
    ∷ record { input = root (several 2); claim = root (several 2 ++ several 2147483648); expected = no 3 4 }
    ∷ []

-- rule set 1
newer_runs_lem : List Run
newer_runs_lem =
    -- what is written; an alias that stands behind its reference; an alias one scope too near
    record { input = p1_in; claim = p1 (outer_alias 2147483648 1 0 70 ++ type 3 (raw 3 9 0 0 0 70 ∷ [])); expected = yes }
    ∷ record { input = p1_in; claim = p1 (type 3 (raw 3 9 0 1 0 70 ∷ []) ++ outer_alias 2147483648 1 0 70); expected = yes }
    ∷ record { input = nested_in; claim = nested_out 1 0; expected = no 4 20 }
    -- a name that a later field declares, whatever is claimed; a written number may look forward
    ∷ record { input = root (type 1 (raw 3 9 1 2 0 9 ∷ []) ++ type 2 []); claim = root (type 1 (raw 3 9 0 1 0 9 ∷ []) ++ type 2 []); expected = refused 13 9 [] }
    ∷ record { input = root (type 1 (raw 3 9 0 1 0 9 ∷ []) ++ type 2 []); claim = root (type 1 (raw 3 9 0 1 0 9 ∷ []) ++ type 2 []); expected = yes }
    ∷ []

claims : (all first names_runs && (all first paths_runs && (all first form_runs && (all first several_runs && all newest newer_runs_lem)))) ≡ true
unfolding all right same_verdict root component type outer_alias export_alias p1 p1_in p9_in nested_in nested_out paths_in paths_out outer_run names_runs paths_runs form_runs several several_runs newer_runs_lem two_types two_types_out twice_declared twice_declared_out input_bytes Examples.raws_bytes Tools.computes Rows.computes Tree.computes Shapes.computes Reader.computes Rules.computes Answer.computes ReadForm.computes Readings.computes Check.computes
claims = refl

-- ---- a claim with another header than its input: another version, another rule set

unfoldable headed : (of claim : Setting) → Verdict
headed of claim = verdict Versions.all (input_bytes of (root [])) (input_bytes claim (root []))

headers :
    (same_verdict (headed first first) yes
    && (same_verdict (headed first second) (no 1 0)
    && (same_verdict (headed second newest) (no 1 0)
    && same_verdict (headed newest newest) yes))) ≡ true
unfolding headed same_verdict root input_bytes Examples.raws_bytes Tools.computes Rows.computes Tree.computes Shapes.computes Reader.computes Rules.computes Answer.computes ReadForm.computes Readings.computes Check.computes
headers = refl
