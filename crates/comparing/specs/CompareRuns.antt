-- Runs of a comparison: equal forms, each kind of entry, each choice, builds of one driver, refusals.
use Rattle.std.specs.Prelude.{◌≡◌, refl, Bool, true, false, ◌&&◌, not, List, [], ◌∷◌, ◌++◌, ℕ, ◌+◌, ◌*◌, eqb, length, take, replicate, get_or, set}
use Rattle.rules.specs.Tools
use Rattle.rules.specs.Versions.{Setting, version1, today, base}
use Rattle.rules.specs.Rows
use Rattle.rules.specs.Rows.{bytes, Raw, raw}
use Rattle.rules.specs.Tree
use Rattle.rules.specs.Shapes
use Rattle.rules.specs.Reader
use Rattle.rules.specs.Rules
use Rattle.rules.specs.Answer
use Rattle.rules.specs.Answer.{AnswerOf, accepted, Answer, answer, same_numbers, form_bytes}
use Rattle.rules.specs.Examples.{input_bytes, raws_bytes}
use Rattle.read_form.specs.ReadForm
use Rattle.comparing.specs.Compare
use Rattle.rules.specs.FurtherRuns.{nested}
use Rattle.comparing.specs.Compare.{Choice, Entry, compared, list_bytes, listed}

-- version 1 with rule set 0
abbrev pub one : Setting
one = record { version = version1; rules = today }

-- an entry that is wanted, as the list has it
unfoldable pub entry : (kind left count right : ℕ) → List Raw → List ℕ
entry kind left count right rs = bytes 4 kind ++ (bytes 4 left ++ (bytes 4 count ++ (bytes 4 right ++ (bytes 4 (length rs) ++ raws_bytes rs))))

-- what is wanted: a refusal and its place, or a list
pub data Wanted : Type 0 where
  refusal : (number place : ℕ) → Wanted
  list : List ℕ → Wanted

-- is the answer the wanted one?
unfoldable pub agrees : AnswerOf (List Entry) → Wanted → Bool
agrees (AnswerOf.refused n p c) (refusal n' p') = eqb n n' && eqb p p'
agrees (AnswerOf.refused n p c) (list bs) = false
agrees (accepted es) (refusal n p) = false
agrees (accepted es) (list bs) = same_numbers (list_bytes es) bs

-- a run: the choice, two forms, and what is wanted
pub record Run : Type 0 where
  pub choice : Choice
  pub left : List ℕ
  pub right : List ℕ
  pub wanted : Wanted

-- do all these runs come out as wanted?
unfoldable pub all : List Run → Bool
all [] = true
all (r ∷ rs) = agrees (compared base r.choice r.left r.right) r.wanted && all rs

-- of the four choices: nothing is ignored
abbrev pub nothing : Choice
nothing = record { places = false; fresh = false }

-- places are ignored
abbrev pub places : Choice
places = record { places = true; fresh = false }

-- fresh names are ignored
abbrev pub names : Choice
names = record { places = false; fresh = true }

-- both are ignored
abbrev pub both : Choice
both = record { places = true; fresh = true }

-- ---- forms

-- the rows between the root's OPEN and CLOSE, in a root of this name
unfoldable pub root : ℕ → List Raw → List ℕ
root name rs = input_bytes one (raw 7 0 0 name 0 0 ∷ (rs ++ (raw 8 0 0 0 0 0 ∷ [])))

-- a type with its place
unfoldable pub type : (name z : ℕ) → List Raw
type name z = raw 1 12 0 0 0 z ∷ raw 2 9 0 name 0 z ∷ []

-- an import of a func of type 0
unfoldable pub import : (name z : ℕ) → List Raw
import name z = raw 1 21 0 0 0 z ∷ raw 2 8 0 name 0 z ∷ raw 3 9 0 0 0 z ∷ []

-- a component with an outer alias of type `n` of this fresh name, and a type of its own name that refers to it
unfoldable pub component : (name fresh n : ℕ) → List Raw
component name fresh n =
    raw 1 6 0 0 0 0 ∷ raw 2 11 0 name 0 0 ∷ raw 7 0 0 name 0 0
    ∷ raw 1 11 0 0 0 70 ∷ raw 2 9 0 fresh 0 70 ∷ raw 5 9 0 1 n 70
    ∷ raw 1 12 0 0 0 0 ∷ raw 2 9 0 name 0 0 ∷ raw 3 9 0 0 0 70
    ∷ raw 8 0 0 0 0 0
    ∷ []

-- two custom sections, of one row each
unfoldable pub custom : (z : ℕ) → List Raw
custom z = raw 1 25 0 0 0 z ∷ raw 1 25 0 0 0 z ∷ []

-- ---- builds of a driver: resolved by the rules

-- a decoder as it is written: its type refers to type `at` of the root
unfoldable pub decoder : (name at : ℕ) → List Raw
decoder name at =
    raw 1 6 0 0 0 0 ∷ raw 2 11 0 name 0 0 ∷ raw 7 0 0 name 0 0
    ∷ raw 1 12 0 0 0 0 ∷ raw 2 9 0 name 0 0 ∷ raw 3 9 1 at 0 70
    ∷ raw 8 0 0 0 0 0
    ∷ []

-- the form that is written for an input, nothing if it is refused
unfoldable pub written : Answer → List ℕ
written (AnswerOf.refused n p c) = []
written (accepted rs) = form_bytes one rs

-- the driver's types 1 and 2, and these decoders, resolved
unfoldable pub build : List Raw → List ℕ
build rs =
    let input = root 0 (type 1 0 ++ (type 2 0 ++ rs)) in
    written (answer base input (8 + 4 * length input))

-- runs on small forms, one for each rule
unfoldable pub runs : List Run
runs =
    -- equal forms
    record { choice = nothing; left = root 3 (type 1 5 ++ import 4 6); right = root 3 (type 1 5 ++ import 4 6); wanted = list [] }
    -- one field changed: the import's name
    ∷ record { choice = nothing; left = root 3 (type 1 5 ++ (import 4 6 ++ type 7 8)); right = root 3 (type 1 5 ++ (import 9 6 ++ type 7 8)); wanted = list (entry 4 3 3 3 (import 9 6)) }
    -- one added, in the middle and at the end
    ∷ record { choice = nothing; left = root 3 (type 1 5 ++ type 7 8); right = root 3 (type 1 5 ++ (import 4 6 ++ type 7 8)); wanted = list (entry 3 3 0 3 (import 4 6)) }
    ∷ record { choice = nothing; left = root 3 (type 1 5); right = root 3 (type 1 5 ++ type 1 5); wanted = list (entry 3 3 0 3 (type 1 5)) }
    -- one removed
    ∷ record { choice = nothing; left = root 3 (type 1 5 ++ (import 4 6 ++ type 7 8)); right = root 3 (type 1 5 ++ type 7 8); wanted = list (entry 2 3 3 3 []) }
    -- two lone fields of different codes
    ∷ record { choice = nothing; left = root 3 (type 1 5 ++ type 7 8); right = root 3 (import 4 6 ++ type 7 8); wanted = list (entry 2 1 2 1 [] ++ entry 3 3 0 1 (import 4 6)) }
    -- more than two are left: none is a pair
    ∷ record { choice = nothing; left = root 3 (type 1 5); right = root 3 (type 2 5 ++ type 3 5); wanted = list (entry 2 1 2 1 [] ++ (entry 3 3 0 1 (type 2 5) ++ entry 3 3 0 3 (type 3 5))) }
    -- the root's name
    ∷ record { choice = both; left = root 3 (type 1 5); right = root 4 (type 1 5); wanted = list (entry 1 0 1 0 (raw 7 0 0 4 0 0 ∷ [])) }
    -- places count, and are ignored
    ∷ record { choice = names; left = root 3 (type 1 5); right = root 3 (type 1 6); wanted = list (entry 4 1 2 1 (type 1 6)) }
    ∷ record { choice = places; left = root 3 (type 1 5); right = root 3 (type 1 6); wanted = list [] }
    -- fresh names count, and are ignored; the one name that they count as is no original one
    ∷ record { choice = places; left = root 3 (component 4 2147483648 0); right = root 3 (component 4 2147483650 0); wanted = list (entry 4 1 10 1 (component 4 2147483650 0)) }
    ∷ record { choice = names; left = root 3 (component 4 2147483648 0); right = root 3 (component 4 2147483650 0); wanted = list [] }
    ∷ record { choice = both; left = root 3 (component 4 2147483648 0); right = root 3 (component 4 2147483647 0); wanted = list (entry 4 1 10 1 (component 4 2147483647 0)) }
    ∷ []

-- the two decoders of a driver swapped; a decoder added before another, whose alias then has another fresh name
unfoldable pub builds : List Run
builds =
    record {
      choice = nothing;
      left = build (decoder 11 1 ++ decoder 12 2);
      right = build (decoder 12 2 ++ decoder 11 1);
      wanted = list (entry 2 5 10 5 [] ++ (entry 2 15 10 5 [] ++ (entry 3 25 0 5 (component 12 2147483648 1) ++ entry 3 25 0 15 (component 11 2147483649 0))));
    }
    ∷ record {
      choice = nothing;
      left = build (decoder 12 2);
      right = build (decoder 11 1 ++ decoder 12 2);
      wanted = list (entry 2 5 10 5 [] ++ (entry 3 15 0 5 (component 11 2147483648 0) ++ entry 3 15 0 15 (component 12 2147483649 1)));
    }
    ∷ record {
      choice = names;
      left = build (decoder 12 2);
      right = build (decoder 11 1 ++ decoder 12 2);
      wanted = list (entry 3 5 0 5 (component 11 2147483648 0));
    }
    ∷ []

-- the left's refusals, then unequal headers, then the right's
unfoldable pub refusals : List Run
refusals =
    record { choice = nothing; left = replicate 8 0; right = []; wanted = refusal 1 0 }
    ∷ record { choice = nothing; left = take 40 (root 3 (type 1 5)); right = []; wanted = refusal 2 0 }
    ∷ record { choice = nothing; left = root 3 (take 1 (type 1 5)); right = []; wanted = refusal 4 2 }
    ∷ record { choice = nothing; left = root 3 (type 1 5); right = replicate 8 0; wanted = refusal 1 0 }
    ∷ record { choice = nothing; left = root 3 (type 1 5); right = take 40 (root 3 (type 1 5)); wanted = refusal 2 0 }
    ∷ record { choice = nothing; left = root 3 (type 1 5); right = root 3 (take 1 (type 1 5)); wanted = refusal 4 2 }
    ∷ []

-- the runs on small forms come out as wanted
pub runs_right : all runs ≡ true
unfolding runs all agrees entry root type import component input_bytes raws_bytes Tools.computes Rows.computes Tree.computes Shapes.computes Reader.computes Rules.computes Answer.computes ReadForm.computes Compare.computes
runs_right = refl

-- the runs on builds of a driver come out as wanted
pub builds_right : all builds ≡ true
unfolding builds build decoder written all agrees entry root type component input_bytes raws_bytes Tools.computes Rows.computes Tree.computes Shapes.computes Reader.computes Rules.computes Answer.computes ReadForm.computes Compare.computes
builds_right = refl

-- the refusals come out as wanted
pub refusals_right : all refusals ≡ true
unfolding refusals all agrees entry root type input_bytes raws_bytes Tools.computes Rows.computes Tree.computes Shapes.computes Reader.computes Rules.computes Answer.computes ReadForm.computes Compare.computes
refusals_right = refl

-- 33 scopes one in another are refused with 5 at the last OPEN: the left's before the right's
pub depth_right :
    all (record { choice = nothing; left = root 0 (nested 31); right = root 0 (nested 32); wanted = refusal 5 96 }
    ∷ record { choice = nothing; left = root 0 (nested 32); right = root 0 (take 1 (type 1 5)); wanted = refusal 5 96 } ∷ []) ≡ true
unfolding nested all agrees root type input_bytes raws_bytes Tools.computes Rows.computes Tree.computes Shapes.computes Reader.computes Rules.computes Answer.computes ReadForm.computes Compare.computes
depth_right = refl

-- a list of one entry and three rows needs 68 bytes
pub room_right :
    (agrees (listed base nothing (root 3 (type 1 5)) (root 3 (type 1 5 ++ import 4 6)) 68) (list (entry 3 3 0 3 (import 4 6)))
    && agrees (listed base nothing (root 3 (type 1 5)) (root 3 (type 1 5 ++ import 4 6)) 67) (refusal 3 0)) ≡ true
unfolding agrees entry root type import input_bytes raws_bytes Tools.computes Rows.computes Tree.computes Shapes.computes Reader.computes Rules.computes Answer.computes ReadForm.computes Compare.computes
room_right = refl

-- the longest list of two forms of four rows: every row but the CLOSE rows, in 148 bytes
pub longest_right : agrees (compared base nothing (root 1 (custom 1)) (root 2 (custom 2)))
    (list (entry 1 0 1 0 (raw 7 0 0 2 0 0 ∷ []) ++ (entry 2 1 1 1 [] ++ (entry 2 2 1 1 [] ++ (entry 3 3 0 1 (raw 1 25 0 0 0 2 ∷ []) ++ entry 3 3 0 2 (raw 1 25 0 0 0 2 ∷ [])))))) ≡ true
unfolding custom agrees entry root input_bytes raws_bytes Tools.computes Rows.computes Tree.computes Shapes.computes Reader.computes Rules.computes Answer.computes ReadForm.computes Compare.computes
longest_right = refl

-- ---- what is ignored of each kind of row

-- six names, of a DECL, a CASE, a REF, an OUTER's two, an inner scope; and the places of a FIELD, a DECL, a REF, an OUTER, a CASE
unfoldable pub every : List ℕ → List ℕ
every ns =
    root 0 (
    raw 1 12 0 0 0 (get_or ns 6 0) ∷ raw 2 9 0 (get_or ns 0 0) 0 (get_or ns 7 0) ∷ raw 6 0 0 (get_or ns 1 0) 0 (get_or ns 10 0) ∷ raw 3 9 1 (get_or ns 2 0) 0 (get_or ns 8 0)
    ∷ raw 1 11 0 0 0 0 ∷ raw 2 9 0 0 0 0 ∷ raw 5 9 3 (get_or ns 3 0) (get_or ns 4 0) (get_or ns 9 0)
    ∷ raw 1 6 0 0 0 0 ∷ raw 2 11 0 (get_or ns 5 0) 0 0 ∷ raw 7 0 0 (get_or ns 5 0) 0 0 ∷ raw 8 0 0 0 0 0
    ∷ [])

-- is nothing listed if part `k` is `n` in place of what it was?
unfoldable pub unseen : Choice → (k n : ℕ) → Bool
unseen c k n =
    let ns : List ℕ = replicate 6 2147483648 ++ replicate 5 0 in
    agrees (compared base c (every ns) (every (set ns k n))) (list [])

-- is something listed for each of these parts?
unfoldable pub never : Choice → (n : ℕ) → List ℕ → Bool
never c n [] = true
never c n (k ∷ ks) = not (unseen c k n) && never c n ks

-- is nothing listed for any of these parts?
unfoldable pub always : Choice → (n : ℕ) → List ℕ → Bool
always c n [] = true
always c n (k ∷ ks) = unseen c k n && always c n ks

-- the parts of `every` that are names
abbrev pub of_names : List ℕ
of_names = 0 ∷ 1 ∷ 2 ∷ 3 ∷ 4 ∷ 5 ∷ []

-- the parts of `every` that are places
abbrev pub of_places : List ℕ
of_places = 6 ∷ 7 ∷ 8 ∷ 9 ∷ 10 ∷ []

-- another fresh name is listed unless fresh names are ignored; an original one always is
pub names_right : (never places 2147483649 of_names && (always names 2147483649 of_names && never both 5 of_names)) ≡ true
unfolding every unseen never always agrees root input_bytes raws_bytes Tools.computes Rows.computes Tree.computes Shapes.computes Reader.computes Rules.computes Answer.computes ReadForm.computes Compare.computes
names_right = refl

-- another place is listed unless places are ignored
pub places_right : (never names 1 of_places && always places 1 of_places) ≡ true
unfolding every unseen never always agrees root input_bytes raws_bytes Tools.computes Rows.computes Tree.computes Shapes.computes Reader.computes Rules.computes Answer.computes ReadForm.computes Compare.computes
places_right = refl
