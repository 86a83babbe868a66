-- The mending of forms: sound ones, and each way to spoil one. Every mended form is undone to the bytes that it was made from.
use Rattle.std.specs.Prelude.{◌≡◌, refl, Bool, true, false, ◌&&◌, List, [], ◌∷◌, ◌++◌, ℕ, eqb, take, drop, replicate}
use Rattle.rules.specs.Tools
use Rattle.rules.specs.Versions
use Rattle.rules.specs.Versions.{Setting, version1, version2, today, newer}
use Rattle.rules.specs.Rows
use Rattle.rules.specs.Rows.{Raw, raw}
use Rattle.rules.specs.Tree
use Rattle.rules.specs.Shapes
use Rattle.rules.specs.Reader
use Rattle.rules.specs.Rules
use Rattle.rules.specs.Answer
use Rattle.rules.specs.Answer.{same_numbers}
use Rattle.read_form.specs.ReadForm
use Rattle.mending.specs.Mend
use Rattle.mending.specs.Mend.{Mending, refused, mended, Change, undo, mend, mend_buffer, buffer_after, list_after}
use Rattle.rules.specs.Examples.{input_bytes, raws_bytes}

first : Setting
first = record { version = version1; rules = today }

newest : Setting
newest = record { version = version2; rules = newer }

unfoldable bytes_of : List Raw → List ℕ
bytes_of rs = input_bytes first rs

unfoldable same_changes : (a b : List Change) → Bool
same_changes [] [] = true
same_changes [] (d ∷ ds) = false
same_changes (c ∷ cs) [] = false
same_changes (c ∷ cs) (d ∷ ds) = eqb c.at d.at && (same_numbers c.before d.before && (eqb c.now d.now && same_changes cs ds))

unfoldable agrees : (input : List ℕ) → Mending → Mending → Bool
agrees input (refused n p) (refused n' p') = eqb n n' && eqb p p'
agrees input (refused n p) (mended form list) = false
agrees input (mended form list) (refused n p) = false
agrees input (mended form list) (mended form' list') = same_numbers form form' && (same_changes list list' && same_numbers (undo 0 list form) input)

record Run : Type 0 where
  input : List ℕ
  room : ℕ
  space : ℕ
  expected : Mending

unfoldable right : Run → Bool
right r = agrees r.input (mend Versions.all r.input r.room r.space) r.expected

unfoldable all : List Run → Bool
all [] = true
all (r ∷ rs) = right r && all rs

-- an input with room enough, and the form and the changes
unfoldable gives : List ℕ → List ℕ → List Change → Run
gives input form list = record { input = input; room = 1000; space = 1000; expected = mended form list }

unfoldable says : List ℕ → (number place : ℕ) → Run
says input number place = record { input = input; room = 1000; space = 1000; expected = refused number place }

-- `now` bytes at byte `at` that were these
unfoldable was : (at now : ℕ) → List ℕ → Change
was at now before = record { at = at; before = before; now = now }

-- a header that says this many rows, and byte 5
unfoldable headed : (five count : ℕ) → List ℕ → List ℕ
headed five count rows = 87 ∷ 78 ∷ 84 ∷ 1 ∷ 0 ∷ five ∷ count ∷ 0 ∷ rows

opens : Raw
opens = raw 7 0 0 0 0 0

closes : Raw
closes = raw 8 0 0 0 0 0

-- a form whose root has these rows
unfoldable root : List Raw → List Raw
root rs = opens ∷ (rs ++ (closes ∷ []))

-- a root with one spoilt row, which is row `at`: the sound one, the spoilt one, and the changes
unfoldable spoilt : (before : List Raw) (spoilt sound : Raw) (after : List Raw) → List Change → Run
spoilt before bad good after list = gives (bytes_of (root (before ++ (bad ∷ after)))) (bytes_of (root (before ++ (good ∷ after)))) list

type : List Raw
type = raw 1 12 0 0 0 0 ∷ raw 2 9 0 1 0 0 ∷ []

alias : List Raw
alias = raw 1 9 0 0 0 0 ∷ raw 2 9 0 2 0 0 ∷ raw 3 10 0 0 0 0 ∷ []

-- a scope with a field behind it
nested : List Raw
nested = raw 1 6 0 0 0 0 ∷ raw 2 11 0 1 0 0 ∷ raw 7 0 0 1 0 0 ∷ closes ∷ type

-- ---- runs, each spoilt in one way

zeros : ℕ → List ℕ
zeros n = replicate n 0

cuts : List Run
cuts =
    gives (bytes_of (root [])) (bytes_of (root [])) []
    ∷ gives (bytes_of (root type)) (bytes_of (root type)) []
    ∷ record { input = bytes_of (root type); room = 72; space = 0; expected = mended (bytes_of (root type)) [] }
    ∷ gives (bytes_of (root nested)) (bytes_of (root nested)) []
    -- a part row is dropped
    ∷ gives (bytes_of (root []) ++ (1 ∷ 2 ∷ 3 ∷ [])) (bytes_of (root [])) (was 40 0 (1 ∷ 2 ∷ 3 ∷ []) ∷ [])
    -- a form cut within its last row: the part row goes, the CLOSE comes, and the row count is as it was
    ∷ gives (take 60 (bytes_of (root type))) (bytes_of (root type)) (was 56 16 (8 ∷ 0 ∷ 0 ∷ 0 ∷ []) ∷ [])
    -- a form cut at the end of a row, with the count of what is left
    ∷ gives (bytes_of (opens ∷ type)) (bytes_of (root type)) (was 6 2 (3 ∷ 0 ∷ []) ∷ was 56 16 [] ∷ [])
    -- two CLOSE rows are missing
    ∷ gives (bytes_of (opens ∷ raw 1 6 0 0 0 0 ∷ raw 2 11 0 1 0 0 ∷ raw 7 0 0 1 0 0 ∷ [])) (bytes_of (root (raw 1 6 0 0 0 0 ∷ raw 2 11 0 1 0 0 ∷ raw 7 0 0 1 0 0 ∷ closes ∷ [])))
    (was 6 2 (4 ∷ 0 ∷ []) ∷ was 72 32 [] ∷ [])
    -- rows after the root's CLOSE, and a part row behind them
    ∷ gives (bytes_of (root [] ++ (closes ∷ [])) ++ (9 ∷ [])) (bytes_of (root [])) (was 6 2 (3 ∷ 0 ∷ []) ∷ was 40 0 (8 ∷ (zeros 15 ++ (9 ∷ []))) ∷ [])
    -- a wrong row count; byte 5
    ∷ gives (headed 0 9 (raws_bytes (root []))) (bytes_of (root [])) (was 6 2 (9 ∷ 0 ∷ []) ∷ [])
    ∷ gives (headed 5 2 (raws_bytes (root []))) (bytes_of (root [])) (was 5 1 (5 ∷ []) ∷ [])
    ∷ []

parts : List Run
parts =
    -- FIELD: e, x, y
    spoilt [] (raw 1 12 3 0 0 7) (raw 1 12 0 0 0 7) (raw 2 9 0 1 0 0 ∷ []) (was 26 2 (3 ∷ 0 ∷ []) ∷ [])
    ∷ spoilt [] (raw 1 12 0 4 5 7) (raw 1 12 0 0 0 7) (raw 2 9 0 1 0 0 ∷ []) (was 28 4 (4 ∷ 0 ∷ 0 ∷ 0 ∷ []) ∷ was 32 4 (5 ∷ 0 ∷ 0 ∷ 0 ∷ []) ∷ [])
    -- a builtin's code stays
    ∷ spoilt [] (raw 1 19 6 0 1 0) (raw 1 19 6 0 0 0) (raw 2 0 0 1 0 0 ∷ []) (was 32 4 (1 ∷ 0 ∷ 0 ∷ 0 ∷ []) ∷ [])
    -- and so does that an export has an ascribed type
    ∷ spoilt type (raw 1 22 1 0 2 0) (raw 1 22 1 0 0 0) (raw 2 9 0 2 0 0 ∷ raw 3 9 0 0 0 0 ∷ raw 3 9 0 0 0 0 ∷ []) (was 64 4 (2 ∷ 0 ∷ 0 ∷ 0 ∷ []) ∷ [])
    -- DECL: e, y
    ∷ spoilt (raw 1 12 0 0 0 0 ∷ []) (raw 2 9 1 1 2 8) (raw 2 9 0 1 0 8) [] (was 42 2 (1 ∷ 0 ∷ []) ∷ was 48 4 (2 ∷ 0 ∷ 0 ∷ 0 ∷ []) ∷ [])
    -- PATH: b, e, y, z
    ∷ spoilt (raw 1 8 0 0 0 0 ∷ raw 2 10 0 1 0 0 ∷ raw 3 9 0 0 1 0 ∷ []) (raw 4 1 2 3 4 5) (raw 4 0 0 3 0 0) []
    (was 73 1 (1 ∷ []) ∷ was 74 2 (2 ∷ 0 ∷ []) ∷ was 80 4 (4 ∷ 0 ∷ 0 ∷ 0 ∷ []) ∷ was 84 4 (5 ∷ 0 ∷ 0 ∷ 0 ∷ []) ∷ [])
    -- OUTER: all but the two lowest bits of e
    ∷ spoilt (raw 1 11 0 0 0 0 ∷ raw 2 9 0 1 0 0 ∷ []) (raw 5 9 263 1 2 5) (raw 5 9 3 1 2 5) [] (was 58 2 (7 ∷ 1 ∷ []) ∷ [])
    -- CASE: b, e, y
    ∷ spoilt type (raw 6 1 2 3 4 5) (raw 6 0 0 3 0 5) [] (was 57 1 (1 ∷ []) ∷ was 58 2 (2 ∷ 0 ∷ []) ∷ was 64 4 (4 ∷ 0 ∷ 0 ∷ 0 ∷ []) ∷ [])
    -- EXPORT: b, e, y, z
    ∷ spoilt alias (raw 9 1 2 3 4 5) (raw 9 0 0 3 0 0) []
    (was 73 1 (1 ∷ []) ∷ was 74 2 (2 ∷ 0 ∷ []) ∷ was 80 4 (4 ∷ 0 ∷ 0 ∷ 0 ∷ []) ∷ was 84 4 (5 ∷ 0 ∷ 0 ∷ 0 ∷ []) ∷ [])
    -- OPEN: e, y, z; CLOSE: all
    ∷ gives (bytes_of (raw 7 0 1 6 2 3 ∷ raw 8 1 2 3 4 5 ∷ [])) (bytes_of (raw 7 0 0 6 0 0 ∷ closes ∷ []))
    (was 10 2 (1 ∷ 0 ∷ []) ∷ was 16 4 (2 ∷ 0 ∷ 0 ∷ 0 ∷ []) ∷ was 20 4 (3 ∷ 0 ∷ 0 ∷ 0 ∷ [])
    ∷ was 25 1 (1 ∷ []) ∷ was 26 2 (2 ∷ 0 ∷ []) ∷ was 28 4 (3 ∷ 0 ∷ 0 ∷ 0 ∷ []) ∷ was 32 4 (4 ∷ 0 ∷ 0 ∷ 0 ∷ []) ∷ was 36 4 (5 ∷ 0 ∷ 0 ∷ 0 ∷ []) ∷ [])
    ∷ []

refusals : List Run
refusals =
    -- 1: too short, another mark
    says (87 ∷ 78 ∷ 84 ∷ 1 ∷ 0 ∷ 0 ∷ 2 ∷ []) 1 0
    ∷ says (88 ∷ drop 1 (bytes_of (root []))) 1 0
    -- 2: no row at all, or none that is whole
    ∷ says (bytes_of []) 2 0
    ∷ says (bytes_of [] ++ (7 ∷ 0 ∷ [])) 2 0
    -- 3: no room for the form, none for the list; 3 comes before 4
    ∷ record { input = bytes_of (root type); room = 71; space = 1000; expected = refused 3 0 }
    ∷ record { input = bytes_of (opens ∷ type); room = 72; space = 27; expected = refused 3 0 }
    ∷ record { input = bytes_of (opens ∷ type); room = 72; space = 28; expected = mended (bytes_of (root type)) (was 6 2 (3 ∷ 0 ∷ []) ∷ was 56 16 [] ∷ []) }
    ∷ record { input = bytes_of (root (raw 10 0 0 0 0 0 ∷ [])); room = 55; space = 1000; expected = refused 3 0 }
    -- 4: what is not zero by the table of rows is not mended: a code, e of a REF, PATHs where none may stand
    ∷ says (bytes_of (root (raw 10 0 0 0 0 0 ∷ []))) 4 1
    ∷ says (bytes_of (root (type ++ (raw 3 9 2 0 0 0 ∷ [])))) 4 3
    ∷ says (bytes_of (root (type ++ (raw 3 9 0 0 1 0 ∷ raw 4 0 0 0 0 0 ∷ [])))) 4 3
    -- a field that is cut short is at fault at the CLOSE that is added
    ∷ says (bytes_of (opens ∷ raw 1 12 0 0 0 0 ∷ [])) 4 2
    -- a CLOSE first is the root's
    ∷ says (bytes_of (closes ∷ root [])) 4 0
    ∷ []

-- version 2, whose byte 5 is the rule set
longer : List Run
longer =
    gives (input_bytes newest (root type)) (input_bytes newest (root type)) []
    ∷ gives (87 ∷ 78 ∷ 84 ∷ 2 ∷ 0 ∷ 1 ∷ 9 ∷ 0 ∷ 1 ∷ 0 ∷ 0 ∷ 0 ∷ 5 ∷ (zeros 3 ++ raws_bytes (root []))) (input_bytes newest (root [])) (was 6 4 (9 ∷ 0 ∷ 1 ∷ 0 ∷ []) ∷ was 10 6 (0 ∷ 0 ∷ 5 ∷ 0 ∷ 0 ∷ 0 ∷ []) ∷ [])
    ∷ gives (input_bytes newest (opens ∷ type)) (input_bytes newest (root type)) (was 6 4 (3 ∷ 0 ∷ 0 ∷ 0 ∷ []) ∷ was 64 16 [] ∷ [])
    ∷ says (87 ∷ 78 ∷ 84 ∷ 2 ∷ 0 ∷ 7 ∷ 2 ∷ (zeros 9 ++ raws_bytes (root []))) 1 0
    ∷ []

all_right : (all cuts && (all parts && (all refusals && all longer))) ≡ true
unfolding cuts parts refusals longer newest zeros nested all right agrees same_changes gives says was headed opens closes root spoilt type alias first bytes_of input_bytes raws_bytes Tools.computes Rows.computes Tree.computes Shapes.computes Reader.computes Rules.computes Answer.computes ReadForm.computes Mend.computes
all_right = refl

-- ---- the buffers

-- a form with room for one more row behind it, and a list's buffer of 30 bytes: the CLOSE that was missing stands there, the list has 28 bytes
abbrev roomy : List ℕ
roomy = bytes_of (opens ∷ type) ++ replicate 20 165

abbrev listed : List ℕ
listed =
    (6 ∷ 0 ∷ 0 ∷ 0 ∷ 2 ∷ 0 ∷ 0 ∷ 0 ∷ 2 ∷ 0 ∷ 0 ∷ 0 ∷ 3 ∷ 0 ∷ 0 ∷ 0 ∷ [])
    ++ (56 ∷ 0 ∷ 0 ∷ 0 ∷ 0 ∷ 0 ∷ 0 ∷ 0 ∷ 16 ∷ 0 ∷ 0 ∷ 0 ∷ 165 ∷ 165 ∷ [])

-- three bytes behind the root's CLOSE are cut, and become zero; the two behind them are not the form's
abbrev longer_by_five : List ℕ
longer_by_five = bytes_of (root []) ++ (1 ∷ 2 ∷ 3 ∷ 165 ∷ 165 ∷ [])

buffers_right : (same_numbers (buffer_after (mend_buffer Versions.all roomy 56 30) 56 roomy) (bytes_of (root type) ++ replicate 4 165)
    && (same_numbers (list_after (mend_buffer Versions.all roomy 56 30) (replicate 30 165)) listed
    && (same_numbers (buffer_after (mend_buffer Versions.all longer_by_five 43 30) 43 longer_by_five) (bytes_of (root []) ++ (0 ∷ 0 ∷ 0 ∷ 165 ∷ 165 ∷ []))
    && (same_numbers (buffer_after (mend_buffer Versions.all roomy 56 27) 56 roomy) roomy
    && (same_numbers (list_after (mend_buffer Versions.all roomy 56 27) (replicate 27 165)) (replicate 27 165)
    && agrees roomy (mend_buffer Versions.all roomy 77 30) (refused 2 0)))))) ≡ true
unfolding agrees same_changes opens closes root type first bytes_of input_bytes raws_bytes Tools.computes Rows.computes Tree.computes Shapes.computes Reader.computes Rules.computes Answer.computes ReadForm.computes Mend.computes
buffers_right = refl
