-- Runs of the converter, on both sides of each line; of the row counts 1,023 and 1,024 by a program.
use Rattle.std.specs.Prelude.{◌≡◌, refl, Bool, true, false, ◌&&◌, List, [], ◌∷◌, ◌++◌, ℕ, ◌+◌, ◌*◌, eqb, length, take, replicate}
use Rattle.rules.specs.Tools
use Rattle.rules.specs.Versions.{Setting, version1, version2, today, newer, all}
use Rattle.rules.specs.Rows
use Rattle.rules.specs.Rows.{Raw, raw}
use Rattle.rules.specs.Tree
use Rattle.rules.specs.Shapes
use Rattle.rules.specs.Reader
use Rattle.rules.specs.Answer
use Rattle.rules.specs.Answer.{AnswerOf, refused, accepted, same_numbers}
use Rattle.converting.specs.Convert
use Rattle.converting.specs.Convert.{converted, converted_output}
use Rattle.rules.specs.Examples
use Rattle.rules.specs.Examples.{input_bytes}
use Rattle.rules.specs.FurtherRuns
use Rattle.rules.specs.FurtherRuns.{nested}

abbrev first : Setting
first = record { version = version1; rules = today }

abbrev second : Setting
second = record { version = version2; rules = today }

abbrev under_newer : Setting
under_newer = record { version = version2; rules = newer }

-- a form whose root has these rows between OPEN and CLOSE
root : List Raw → List Raw
root rs = raw 7 0 0 0 0 0 ∷ (rs ++ (raw 8 0 0 0 0 0 ∷ []))

-- a form that the steps would refuse: an unknown name
unknown : List Raw
unknown = root (raw 1 12 0 0 0 0 ∷ raw 2 9 0 1 0 0 ∷ raw 3 9 1 2 0 9 ∷ [])

-- an input, the version asked for, the length of the output buffer, and what is answered
record Run : Type 0 where
  input : List ℕ
  version : ℕ
  room : ℕ
  expected : AnswerOf (List ℕ)

same : AnswerOf (List ℕ) → AnswerOf (List ℕ) → Bool
same (refused n p c) (refused n' p' c') = eqb n n' && eqb p p' && same_numbers c c'
same (refused n p c) (accepted b) = false
same (accepted a) (refused n p c) = false
same (accepted a) (accepted b) = same_numbers a b

all_same : List Run → Bool
all_same [] = true
all_same (r ∷ rs) = same (converted all r.version r.input r.room) r.expected && all_same rs

-- a form of `s` becomes the form of `t` with the same rows, in a buffer that it just fits
over : (s t : Setting) → List Raw → Run
over s t rs = record { input = input_bytes s rs; version = t.version.number; room = t.version.header + 16 * length rs; expected = accepted (input_bytes t rs) }

-- it is refused
refuses : (s : Setting) (version room : ℕ) → List Raw → (number place : ℕ) → Run
refuses s version room rs number place = record { input = input_bytes s rs; version = version; room = room; expected = refused number place [] }

runs : List Run
runs =
    -- there, back, and what has the version asked for; also a form that the steps refuse
    over first second (root []) ∷ over second first (root []) ∷ over first first (root []) ∷ over second second (root [])
    ∷ over first second unknown ∷ over second first unknown
    -- byte 5
    ∷ over under_newer under_newer (root []) ∷ refuses under_newer 1 1000 (root []) 1 0
    -- one byte short, which comes before byte 5 and before a row that breaks the form
    ∷ refuses first 2 47 (root []) 3 0 ∷ refuses second 1 39 (root []) 3 0 ∷ refuses under_newer 1 39 (root []) 3 0
    ∷ refuses first 2 31 (raw 8 0 0 0 0 0 ∷ []) 3 0
    -- a row that breaks the form, a form that ends early; before byte 5
    ∷ refuses first 2 32 (raw 8 0 0 0 0 0 ∷ []) 4 0 ∷ refuses second 1 24 (raw 7 0 0 0 0 0 ∷ []) 4 1 ∷ refuses under_newer 1 24 (raw 7 0 0 0 0 0 ∷ []) 4 1
    -- another length than the header says, no row; ahead of the room
    ∷ record { input = input_bytes first (root []) ++ (0 ∷ []); version = 2; room = 0; expected = refused 2 0 [] }
    ∷ refuses first 2 1000 [] 2 0
    -- no header of any version, no version of that number
    ∷ record { input = take 7 (input_bytes first (root [])); version = 2; room = 1000; expected = refused 1 0 [] }
    ∷ refuses first 3 1000 (root []) 1 0
    ∷ []

runs_right : all_same runs ≡ true
unfolding runs root unknown over refuses all_same same Examples.input_bytes Examples.raws_bytes Tools.computes Rows.computes Tree.computes Shapes.computes Reader.computes Answer.computes Convert.computes
runs_right = refl

-- 32 scopes go back, 33 are refused with 5 at the last OPEN, after byte 5 and the row count; 65 are too many as they are
deep_runs : List Run
deep_runs =
    over second first (root (nested 31)) ∷ refuses second 1 10000 (root (nested 32)) 5 96 ∷ refuses under_newer 1 10000 (root (nested 32)) 1 0
    ∷ over second second (root (nested 63)) ∷ refuses second 1 10000 (root (nested 64)) 5 192
    ∷ []

deep_right : all_same deep_runs ≡ true
unfolding deep_runs root FurtherRuns.nested over refuses all_same same Examples.input_bytes Examples.raws_bytes Tools.computes Rows.computes Tree.computes Shapes.computes Reader.computes Answer.computes Convert.computes
deep_right = refl

-- behind the form the buffer stays; after a refusal all of it does
buffers_right :
    (same_numbers (converted_output all 2 (input_bytes first (root [])) (replicate 50 7)) (input_bytes second (root []) ++ (7 ∷ 7 ∷ []))
    && same_numbers (converted_output all 2 (input_bytes first (root [])) (replicate 47 7)) (replicate 47 7)) ≡ true
unfolding root Examples.input_bytes Examples.raws_bytes Tools.computes Rows.computes Tree.computes Shapes.computes Reader.computes Answer.computes Convert.computes
buffers_right = refl
