-- Moved numbers on P1 to P10 and on forms with written numbers: what is listed, and what is listed apart.
use Rattle.std.specs.Prelude.{◌≡◌, refl, List, [], ◌∷◌, ◌++◌, map, ℕ, replicate}
use Rattle.std.proofs.Math.Option.{Option, none, some}
use Rattle.rules.specs.Tools
use Rattle.rules.specs.Versions.{RuleSet, Setting, version1, version2, today, newer, base, all}
use Rattle.rules.specs.Rows
use Rattle.rules.specs.Rows.{Raw, raw, decode}
use Rattle.rules.specs.Tree
use Rattle.rules.specs.Tree.{Scope, RowsRead, bad, deep, form}
use Rattle.rules.specs.Shapes
use Rattle.rules.specs.Reader
use Rattle.rules.specs.Reader.{read}
use Rattle.rules.specs.Rules
use Rattle.rules.specs.Rules.{Result, refused, ok, resolve}
use Rattle.rules.specs.Answer
use Rattle.rules.specs.Answer.{AnswerOf, accepted, map_answer}
use Rattle.rules.specs.Readings
use Rattle.places.specs.PlaceRows
use Rattle.moving.specs.Moved
use Rattle.moving.specs.Moved.{MovedNumber, NoItem, moved, apart}
use Rattle.moving.specs.MovedAnswer
use Rattle.moving.specs.MovedAnswer.{WithLists, moved_answer, Buffers, buffers}
use Rattle.rules.specs.Examples
use Rattle.rules.specs.Examples.{Case, cases, input_bytes}

-- the two lists, if the form is accepted
resolved : Scope → Result (Scope × ℕ) → Option (List MovedNumber × List NoItem)
resolved s (refused why place) = none
resolved s (ok r) = some (moved s r.0, apart s)

of_form : RowsRead → Option (List MovedNumber × List NoItem)
of_form (bad place) = none
of_form (deep place) = none
of_form (form s) = resolved s (resolve today s)

lists : List Raw → Option (List MovedNumber × List NoItem)
lists rs = of_form (read today 32 (map (decode version1.names) rs))

-- a form whose root has these rows between OPEN and CLOSE
root : List Raw → List Raw
root rs = raw 7 0 0 0 0 0 ∷ (rs ++ (raw 8 0 0 0 0 0 ∷ []))

moves : (z space meant gets : ℕ) → MovedNumber
moves z space meant gets = record { z = z; space = space; meant = meant; gets = gets }

without : (z space number : ℕ) → NoItem
without z space number = record { z = z; space = space; number = number }

-- ---- P1 to P10: refused, or nothing on either list

lists_of : List Case → List (Option (List MovedNumber × List NoItem))
lists_of [] = []
lists_of (c ∷ cs) = lists c.input ∷ lists_of cs

p1_to_p10 : lists_of cases
    ≡ some ([], []) ∷ some ([], []) ∷ none ∷ some ([], []) ∷ some ([], []) ∷ none ∷ none ∷ none ∷ some ([], []) ∷ some ([], []) ∷ []
unfolding lists_of cases lists of_form resolved Tools.computes Rows.computes Tree.computes Shapes.computes Reader.computes Rules.computes Answer.computes Readings.computes PlaceRows.computes Moved.computes
p1_to_p10 = refl

-- ---- the smallest form of docs/DIFFERENCES.md, 2

-- the type 0 at place 71 meant row 7, type 3; now it gets row 7 of the output, the inserted alias of type 1 of the root
smallest : List Raw
smallest =
    root (raw 1 12 0 0 0 0 ∷ raw 2 9 0 1 0 0
    ∷ raw 1 6 0 0 0 0 ∷ raw 2 11 0 0 0 0 ∷ raw 7 0 0 0 0 0
    ∷ raw 1 12 0 0 0 0 ∷ raw 2 9 0 3 0 0 ∷ raw 3 9 1 1 0 70
    ∷ raw 1 12 0 0 0 0 ∷ raw 2 9 0 4 0 0 ∷ raw 3 9 0 0 0 71
    ∷ raw 8 0 0 0 0 0 ∷ [])

smallest_moves : lists smallest ≡ some (moves 71 9 7 7 ∷ [], [])
unfolding smallest root lists of_form resolved moves Tools.computes Rows.computes Tree.computes Shapes.computes Reader.computes Rules.computes Answer.computes Readings.computes PlaceRows.computes Moved.computes
smallest_moves = refl

-- ---- the rest of the request

-- the smallest form with these rows in its component, which is named 2, in place of the field that is moved
inner : List Raw → List Raw
inner inside =
    root (raw 1 12 0 0 0 0 ∷ raw 2 9 0 1 0 0
    ∷ raw 1 6 0 0 0 0 ∷ raw 2 11 0 2 0 0 ∷ raw 7 0 0 2 0 0
    ∷ raw 1 12 0 0 0 0 ∷ raw 2 9 0 3 0 0 ∷ raw 3 9 1 1 0 70
    ∷ (inside ++ (raw 8 0 0 0 0 0 ∷ [])))

-- an OUTER is read in the scope that it names: by the count 0 and by the name 2 in the inner component, where type 0 has moved from row 7 to
-- the alias at row 7; with count 1 it is read in the root, where the number has not moved; with count 5 there is no scope, and it is on neither list
outers : lists (inner (raw 1 11 0 0 0 0 ∷ raw 2 9 0 0 0 0 ∷ raw 5 9 0 0 0 71
    ∷ raw 1 11 0 0 0 0 ∷ raw 2 9 0 0 0 0 ∷ raw 5 9 1 2 0 72
    ∷ raw 1 11 0 0 0 0 ∷ raw 2 9 0 0 0 0 ∷ raw 5 9 0 1 0 73
    ∷ raw 1 11 0 0 0 0 ∷ raw 2 9 0 0 0 0 ∷ raw 5 9 0 5 0 74 ∷ []))
    ≡ some (moves 71 9 7 7 ∷ moves 72 9 7 7 ∷ [], [])
unfolding inner root lists of_form resolved moves Tools.computes Rows.computes Tree.computes Shapes.computes Reader.computes Rules.computes Answer.computes Readings.computes PlaceRows.computes Moved.computes
outers = refl

-- from a scope inside: type 1 of component 2, counted one scope out, was type 5 at row 10 and is type 3 at row 10 of the output
from_inside : lists (inner (raw 1 12 0 0 0 0 ∷ raw 2 9 0 5 0 0
    ∷ raw 1 6 0 0 0 0 ∷ raw 2 11 0 0 0 0 ∷ raw 7 0 0 0 0 0
    ∷ raw 1 11 0 0 0 0 ∷ raw 2 9 0 0 0 0 ∷ raw 5 9 0 1 1 75
    ∷ raw 1 11 0 0 0 0 ∷ raw 2 9 0 0 0 0 ∷ raw 5 9 1 2 1 76
    ∷ raw 8 0 0 0 0 0 ∷ []))
    ≡ some (moves 75 9 10 10 ∷ moves 76 9 10 10 ∷ [], [])
unfolding inner root lists of_form resolved moves Tools.computes Rows.computes Tree.computes Shapes.computes Reader.computes Rules.computes Answer.computes Readings.computes PlaceRows.computes Moved.computes
from_inside = refl

-- A number without an item is listed apart, also where the output has one for it: the inner component has three types, and one more in the
-- output. The root has one.
no_item_lem : lists (inner (raw 1 12 0 0 0 0 ∷ raw 2 9 0 0 0 0 ∷ raw 3 9 0 3 0 71 ∷ raw 1 11 0 0 0 0 ∷ raw 2 9 0 0 0 0 ∷ raw 5 9 0 1 1 72 ∷ []))
    ≡ some ([], without 71 9 3 ∷ without 72 9 1 ∷ [])
unfolding inner root lists of_form resolved without Tools.computes Rows.computes Tree.computes Shapes.computes Reader.computes Rules.computes Answer.computes Readings.computes PlaceRows.computes Moved.computes
no_item_lem = refl

-- a path on a number: the first field's path on instance 0 inserts an instance alias and a func alias; the second field's number 0 of the
-- instances, on which a path stands, then counts to that alias; its space is the instance's, 10
paths : lists (root (raw 1 22 0 0 0 0 ∷ raw 2 8 0 0 0 0 ∷ raw 3 8 0 0 2 70 ∷ raw 4 0 0 5 0 0 ∷ raw 4 0 0 6 0 0
    ∷ raw 1 8 0 0 0 0 ∷ raw 2 10 0 1 0 0
    ∷ raw 1 22 0 0 0 0 ∷ raw 2 8 0 0 0 0 ∷ raw 3 8 0 0 1 71 ∷ raw 4 0 0 7 0 0
    ∷ raw 1 22 0 0 0 0 ∷ raw 2 8 0 0 0 0 ∷ raw 3 8 0 0 0 72 ∷ []))
    ≡ some (moves 70 10 7 2 ∷ moves 71 10 7 2 ∷ moves 72 8 2 6 ∷ [], [])
unfolding root lists of_form resolved moves Tools.computes Rows.computes Tree.computes Shapes.computes Reader.computes Rules.computes Answer.computes Readings.computes PlaceRows.computes Moved.computes
paths = refl

-- a here_only_lem operand counts like any other: core type 0 in field 4 of the inner component
here_only_lem : lists (root (raw 1 4 0 0 0 0 ∷ raw 2 4 0 1 0 0
    ∷ raw 1 6 0 0 0 0 ∷ raw 2 11 0 0 0 0 ∷ raw 7 0 0 0 0 0
    ∷ raw 1 4 0 0 0 0 ∷ raw 2 4 0 2 0 0
    ∷ raw 1 21 0 0 0 0 ∷ raw 2 7 0 0 0 0 ∷ raw 3 4 1 1 0 70
    ∷ raw 1 4 0 0 0 0 ∷ raw 2 4 0 3 0 0 ∷ raw 3 4 0 1 0 71
    ∷ raw 8 0 0 0 0 0 ∷ []))
    ≡ some (moves 71 4 12 9 ∷ [], [])
unfolding root lists of_form resolved moves Tools.computes Rows.computes Tree.computes Shapes.computes Reader.computes Rules.computes Answer.computes Readings.computes PlaceRows.computes Moved.computes
here_only_lem = refl

-- ---- on bytes

setting : Setting
setting = record { version = version1; rules = today }

-- the smallest form has 14 rows: 904 bytes, 224 and 168
after : (out moved apart : ℕ) → Buffers
after out moved apart = buffers base (input_bytes setting smallest) (record { out = replicate out 7; moved = replicate moved 7; apart = replicate apart 7 })

-- one entry, and zeros up to 224; the byte beyond stays; nothing is apart
smallest_lists : ((after 904 225 168).moved ≡ 71 ∷ 0 ∷ 0 ∷ 0 ∷ 9 ∷ 0 ∷ 0 ∷ 0 ∷ 7 ∷ 0 ∷ 0 ∷ 0 ∷ 7 ∷ 0 ∷ 0 ∷ 0 ∷ (replicate 208 0 ++ (7 ∷ [])))
    × ((after 904 225 168).apart ≡ replicate 168 0)
unfolding after setting smallest root Examples.input_bytes Examples.raws_bytes Tools.computes Rows.computes Tree.computes Shapes.computes Reader.computes Rules.computes Answer.computes Readings.computes PlaceRows.computes Moved.computes MovedAnswer.computes
smallest_lists = (refl, refl)

-- a list that is too short by one byte: refusal 3, and all stays
too_short_lem : (moved_answer base (input_bytes setting smallest) (record { out = 904; moved = 224; apart = 167 }) ≡ AnswerOf.refused 3 0 [])
    × ((after 904 223 168) ≡ record { out = replicate 904 7; moved = replicate 223 7; apart = replicate 168 7 })
unfolding after setting smallest root Examples.input_bytes Examples.raws_bytes Tools.computes Rows.computes Tree.computes Shapes.computes Reader.computes Rules.computes Answer.computes Readings.computes PlaceRows.computes Moved.computes MovedAnswer.computes
too_short_lem = (refl, refl)

-- ---- version 2, under both rule sets

answered : RuleSet → List Raw → AnswerOf (List MovedNumber × List NoItem)
answered rules rs =
    map_answer (λ (x : WithLists). (x.moved, x.apart))
    (moved_answer all (input_bytes (record { version = version2; rules = rules }) rs) (record { out = 1040; moved = 256; apart = 192 }))

-- a type that refers to the one behind it, named 5, by its number or by its name
forward : (flag index : ℕ) → List Raw
forward flag index = inner (raw 1 12 0 0 0 0 ∷ raw 2 9 0 4 0 0 ∷ raw 3 9 flag index 0 71 ∷ raw 1 12 0 0 0 0 ∷ raw 2 9 0 5 0 0 ∷ [])

-- the number 2 meant it, at row 13, and gets type 4, at row 13 of the output, whatever the rules
forward_number : (answered today (forward 0 2) ≡ accepted (moves 71 9 13 13 ∷ [], [])) × (answered newer (forward 0 2) ≡ accepted (moves 71 9 13 13 ∷ [], []))
unfolding answered forward inner root moves Examples.input_bytes Examples.raws_bytes Tools.computes Rows.computes Tree.computes Shapes.computes Reader.computes Rules.computes Answer.computes Readings.computes PlaceRows.computes Moved.computes MovedAnswer.computes
forward_number = (refl, refl)

-- the name 5 leaves nothing to list under rule set 0, and is 13 under rule set 1; the name 6 is 9 under both, and the refusal carries its space
forward_name :
    (answered today (forward 1 5) ≡ accepted ([], []))
    × (answered newer (forward 1 5) ≡ AnswerOf.refused 13 71 [])
    × (answered today (forward 1 6) ≡ AnswerOf.refused 9 71 (9 ∷ []))
    × (answered newer (forward 1 6) ≡ AnswerOf.refused 9 71 (9 ∷ []))
unfolding answered forward inner root Examples.input_bytes Examples.raws_bytes Tools.computes Rows.computes Tree.computes Shapes.computes Reader.computes Rules.computes Answer.computes Readings.computes PlaceRows.computes Moved.computes MovedAnswer.computes
forward_name = (refl, refl, refl, refl)
