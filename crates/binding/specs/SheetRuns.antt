-- The binding sheet on the driver of examples/driver, and on forms with written numbers.
use Rattle.std.specs.Prelude.{◌≡◌, refl, List, [], ◌∷◌, ◌++◌, ℕ, true, false, replicate}
use Rattle.std.proofs.Math.Option.{Option, none, some}
use Rattle.rules.specs.Tools
use Rattle.rules.specs.Versions.{RuleSet, version1, version2, today, newer, base, all}
use Rattle.rules.specs.Rows
use Rattle.rules.specs.Rows.{bytes, Raw, raw}
use Rattle.rules.specs.Tree
use Rattle.rules.specs.Shapes
use Rattle.rules.specs.Reader
use Rattle.rules.specs.Rules
use Rattle.rules.specs.Answer
use Rattle.rules.specs.Answer.{refused, accepted}
use Rattle.rules.specs.Readings
use Rattle.places.specs.PlaceRows
use Rattle.moving.specs.Moved
use Rattle.binding.specs.Sheet
use Rattle.binding.specs.Sheet.{as_written, elsewhere, no_reference, several, SheetAnswer, sound_sheet, Run, run_of, work_after, sheet_answer, answers_after}
use Rattle.rules.specs.Examples
use Rattle.rules.specs.Examples.{input_bytes}

form : List Raw → List ℕ
form rs = input_bytes (record { version = version1; rules = today }) rs

slot : (family place name : ℕ) → List ℕ → List ℕ
slot family place name rest = bytes 4 family ++ (bytes 4 place ++ (bytes 4 name ++ rest))

-- with what the rules write for the form
resolved_form : Option Run → List ℕ
resolved_form none = []
resolved_form (some run) = run.bytes

asked : List Raw → (sheet : List ℕ) → SheetAnswer
asked rs sheet = sheet_answer base (form rs) (resolved_form (run_of base (form rs))) sheet 80 65480

-- ---- the driver

-- examples/driver/driver.wnt with decoder 6, driver-swapped.wnt with decoder 7
driver : (decoder : ℕ) → List Raw
driver decoder =
    raw 7 0 0 1 0 0
    ∷ raw 1 12 0 0 0 10 ∷ raw 2 9 0 2 0 10
    ∷ raw 1 13 0 0 0 20 ∷ raw 2 9 0 3 0 20 ∷ raw 3 9 1 2 0 21
    ∷ raw 1 15 0 0 0 30 ∷ raw 2 9 0 4 0 30 ∷ raw 7 2 0 4 0 0
    ∷ raw 1 23 0 0 0 31 ∷ raw 2 8 0 0 0 31 ∷ raw 3 9 1 3 0 32
    ∷ raw 1 23 0 0 0 33 ∷ raw 2 8 0 0 0 33 ∷ raw 3 9 1 3 0 34
    ∷ raw 8 0 0 0 0 0
    ∷ raw 1 21 0 0 0 40 ∷ raw 2 10 0 5 0 40 ∷ raw 3 9 1 4 0 41
    ∷ raw 1 9 0 0 0 50 ∷ raw 2 8 0 6 0 50 ∷ raw 3 10 1 5 0 51 ∷ raw 9 0 0 1 0 0
    ∷ raw 1 9 0 0 0 52 ∷ raw 2 8 0 7 0 52 ∷ raw 3 10 1 5 0 53 ∷ raw 9 0 0 2 0 0
    ∷ raw 1 6 0 0 0 60 ∷ raw 2 11 0 8 0 60 ∷ raw 7 0 0 8 0 0
    ∷ raw 1 21 0 0 0 61 ∷ raw 2 8 0 9 0 61 ∷ raw 3 9 1 3 0 62
    ∷ raw 1 1 0 0 0 63 ∷ raw 2 7 0 10 0 63
    ∷ raw 1 2 0 0 0 64 ∷ raw 2 6 0 11 0 64 ∷ raw 3 7 1 10 0 65
    ∷ raw 1 18 0 0 0 66 ∷ raw 2 8 0 12 0 66 ∷ raw 3 9 1 3 0 67 ∷ raw 3 0 1 11 1 68 ∷ raw 4 0 0 3 0 0
    ∷ raw 1 22 0 0 0 72 ∷ raw 2 8 0 0 0 72 ∷ raw 3 8 1 9 0 73
    ∷ raw 1 22 0 0 0 74 ∷ raw 2 8 0 0 0 74 ∷ raw 3 8 1 12 0 75
    ∷ raw 8 0 0 0 0 0
    ∷ raw 1 7 0 0 0 69 ∷ raw 2 10 0 13 0 69 ∷ raw 3 11 1 8 0 71 ∷ raw 3 8 1 decoder 0 70
    ∷ raw 1 22 0 0 0 80 ∷ raw 2 10 0 0 0 80 ∷ raw 3 10 1 13 0 81
    ∷ raw 8 0 0 0 0 0
    ∷ []

-- the decoder that is bound is 6; the type of the imported decoder is 3, of the scope around it; the instance that is exported is 13
driver_sheet : List ℕ
driver_sheet = slot 1 70 6 (slot 1 62 3 (slot 1 81 13 []))

driver_passes : asked (driver 6) driver_sheet ≡ accepted (as_written ∷ as_written ∷ as_written ∷ [])
unfolding asked resolved_form form driver driver_sheet slot Examples.input_bytes Examples.raws_bytes Tools.computes Rows.computes Tree.computes Shapes.computes Reader.computes Rules.computes Answer.computes Readings.computes PlaceRows.computes Moved.computes Sheet.computes
driver_passes = refl

-- the other decoder: bound elsewhere, to row 30 of the output, func 1
swapped_fails : asked (driver 7) driver_sheet ≡ accepted (elsewhere 30 ∷ as_written ∷ as_written ∷ [])
unfolding asked resolved_form form driver driver_sheet slot Examples.input_bytes Examples.raws_bytes Tools.computes Rows.computes Tree.computes Shapes.computes Reader.computes Rules.computes Answer.computes Readings.computes PlaceRows.computes Moved.computes Sheet.computes
swapped_fails = refl

-- a reference with a PATH reaches its inserted alias, at row 51; at place 10 stand a FIELD and a DECL, and no REF
driver_others : asked (driver 6) (slot 1 68 11 (slot 1 10 2 [])) ≡ accepted (elsewhere 51 ∷ no_reference ∷ [])
unfolding asked resolved_form form driver slot Examples.input_bytes Examples.raws_bytes Tools.computes Rows.computes Tree.computes Shapes.computes Reader.computes Rules.computes Answer.computes Readings.computes PlaceRows.computes Moved.computes Sheet.computes
driver_others = refl

-- ---- version 2, under both rule sets

second : RuleSet → List Raw → List ℕ
second rules rs = input_bytes (record { version = version2; rules = rules }) rs

asked_second : RuleSet → List Raw → (sheet : List ℕ) → SheetAnswer
asked_second rules rs sheet = sheet_answer all (second rules rs) (resolved_form (run_of all (second rules rs))) sheet 80 1048528

-- the driver passes as in version 1; the resolved form of the other rule set is another form
driver_second :
    (asked_second today (driver 6) driver_sheet ≡ accepted (as_written ∷ as_written ∷ as_written ∷ []))
    × (asked_second newer (driver 6) driver_sheet ≡ accepted (as_written ∷ as_written ∷ as_written ∷ []))
    × (sheet_answer all (second newer (driver 6)) (resolved_form (run_of all (second today (driver 6)))) driver_sheet 80 1048528 ≡ refused 15 0 [])
unfolding asked_second second resolved_form driver driver_sheet slot Examples.input_bytes Examples.raws_bytes Tools.computes Rows.computes Tree.computes Shapes.computes Reader.computes Rules.computes Answer.computes Readings.computes PlaceRows.computes Moved.computes Sheet.computes
driver_second = (refl, refl, refl)

-- type 1 refers to type 2, which stands behind it: rule set 1 refuses the form, and so the sheet
forward : List Raw
forward = raw 7 0 0 0 0 0 ∷ raw 1 12 0 0 0 0 ∷ raw 2 9 0 1 0 0 ∷ raw 3 9 1 2 0 70 ∷ raw 1 12 0 0 0 0 ∷ raw 2 9 0 2 0 0 ∷ raw 8 0 0 0 0 0 ∷ []

forward_name : (asked_second today forward (slot 1 70 2 []) ≡ accepted (as_written ∷ [])) × (asked_second newer forward (slot 1 70 2 []) ≡ refused 15 0 [])
unfolding asked_second second resolved_form forward slot Examples.input_bytes Examples.raws_bytes Tools.computes Rows.computes Tree.computes Shapes.computes Reader.computes Rules.computes Answer.computes Readings.computes PlaceRows.computes Moved.computes Sheet.computes
forward_name = (refl, refl)

-- ---- a moved number, a number without an item, an original alias, two references at one place

-- in a component: type 3, which names type 1 of the root; an outer alias of type 1, named 5; types that refer to number 0, to number 9, to the
-- alias, and twice at one place
mixed : List Raw
mixed =
    raw 7 0 0 0 0 0
    ∷ raw 1 12 0 0 0 0 ∷ raw 2 9 0 1 0 0
    ∷ raw 1 6 0 0 0 0 ∷ raw 2 11 0 0 0 0 ∷ raw 7 0 0 0 0 0
    ∷ raw 1 12 0 0 0 0 ∷ raw 2 9 0 3 0 0 ∷ raw 3 9 1 1 0 70
    ∷ raw 1 11 0 0 0 0 ∷ raw 2 9 0 5 0 0 ∷ raw 5 9 0 1 0 75
    ∷ raw 1 12 0 0 0 0 ∷ raw 2 9 0 0 0 0 ∷ raw 3 9 0 0 0 71 ∷ raw 3 9 0 9 0 72 ∷ raw 3 9 1 5 0 73 ∷ raw 3 9 1 3 0 74 ∷ raw 3 9 1 3 0 74
    ∷ raw 8 0 0 0 0 0
    ∷ raw 8 0 0 0 0 0
    ∷ []

-- number 0 meant type 3, and now reaches type 1 of the root, at row 2, through the alias that was inserted before type 3
moved_number_lem : asked mixed (slot 1 70 1 (slot 1 71 3 (slot 1 71 1 []))) ≡ accepted (as_written ∷ elsewhere 2 ∷ as_written ∷ [])
unfolding asked resolved_form form mixed slot Examples.input_bytes Examples.raws_bytes Tools.computes Rows.computes Tree.computes Shapes.computes Reader.computes Rules.computes Answer.computes Readings.computes PlaceRows.computes Moved.computes Sheet.computes
moved_number_lem = refl

-- nothing is number 9; the original alias at row 13 of the output is not followed; two references at one place; an OUTER is no reference
others : asked mixed (slot 1 72 1 (slot 1 73 5 (slot 1 73 1 (slot 1 74 3 (slot 1 75 1 []))))) ≡ accepted (elsewhere 0 ∷ as_written ∷ elsewhere 13 ∷ several ∷ no_reference ∷ [])
unfolding asked resolved_form form mixed slot Examples.input_bytes Examples.raws_bytes Tools.computes Rows.computes Tree.computes Shapes.computes Reader.computes Rules.computes Answer.computes Readings.computes PlaceRows.computes Moved.computes Sheet.computes
others = refl

-- ---- refusals, and the buffer

-- a sheet of no slots passes; one byte too many; a slot without a name; the input in place of its resolved form; a form that is refused (it
-- has no CLOSE); a byte behind the resolved form
refusals :
    (asked mixed [] ≡ accepted [])
    × (asked mixed (0 ∷ slot 1 70 1 []) ≡ refused 15 0 [])
    × (asked mixed (slot 1 70 0 []) ≡ refused 15 0 [])
    × (sheet_answer base (form mixed) (form mixed) (slot 1 70 1 []) 80 65480 ≡ refused 15 0 [])
    × (asked (raw 7 0 0 0 0 0 ∷ []) [] ≡ refused 15 0 [])
    × (sheet_answer base (form mixed) (resolved_form (run_of base (form mixed)) ++ (0 ∷ [])) [] 80 65480 ≡ refused 15 0 [])
unfolding asked resolved_form form mixed slot Examples.input_bytes Examples.raws_bytes Tools.computes Rows.computes Tree.computes Shapes.computes Reader.computes Rules.computes Answer.computes Readings.computes PlaceRows.computes Moved.computes Sheet.computes
refusals = (refl, refl, refl, refl, refl, refl)

-- no room for the answers, after 15
no_room :
    (sheet_answer base (form mixed) (resolved_form (run_of base (form mixed))) (slot 1 70 1 []) 7 65480 ≡ refused 3 0 [])
    × (sheet_answer base (form mixed) (form mixed) (slot 1 70 1 []) 7 65480 ≡ refused 15 0 [])
unfolding asked resolved_form form mixed slot Examples.input_bytes Examples.raws_bytes Tools.computes Rows.computes Tree.computes Shapes.computes Reader.computes Rules.computes Answer.computes Readings.computes PlaceRows.computes Moved.computes Sheet.computes
no_room = (refl, refl)

-- 200 slots are a sheet, and 201 are not
most_slots : (sound_sheet (replicate 2400 1) ≡ true) × (sound_sheet (replicate 2412 1) ≡ false)
unfolding Tools.computes Rows.computes Sheet.computes
most_slots = (refl, refl)

-- a working area one byte too short: after the sheet, before the forms
no_area :
    (sheet_answer base (form mixed) (resolved_form (run_of base (form mixed))) (slot 1 70 1 []) 8 65479 ≡ refused 3 0 [])
    × (sheet_answer base (form mixed) (resolved_form (run_of base (form mixed))) (slot 1 70 0 []) 8 65479 ≡ refused 15 0 [])
    × (sheet_answer base (form mixed) (form mixed) (slot 1 70 1 []) 8 65479 ≡ refused 3 0 [])
    × (work_after base (form mixed) (7 ∷ 7 ∷ 7 ∷ []) ≡ 0 ∷ 0 ∷ 0 ∷ [])
unfolding asked resolved_form form mixed slot Examples.input_bytes Examples.raws_bytes Tools.computes Rows.computes Tree.computes Shapes.computes Reader.computes Rules.computes Answer.computes Readings.computes PlaceRows.computes Moved.computes Sheet.computes
no_area = (refl, refl, refl, refl)

-- 8 bytes a slot, and the rest as it was
buffer : answers_after (asked mixed (slot 1 71 3 (slot 1 74 3 []))) (7 ∷ 7 ∷ 7 ∷ 7 ∷ 7 ∷ 7 ∷ 7 ∷ 7 ∷ 7 ∷ 7 ∷ 7 ∷ 7 ∷ 7 ∷ 7 ∷ 7 ∷ 7 ∷ 7 ∷ 8 ∷ [])
    ≡ 1 ∷ 0 ∷ 0 ∷ 0 ∷ 2 ∷ 0 ∷ 0 ∷ 0 ∷ 3 ∷ 0 ∷ 0 ∷ 0 ∷ 0 ∷ 0 ∷ 0 ∷ 0 ∷ 7 ∷ 8 ∷ []
unfolding asked resolved_form form mixed slot Examples.input_bytes Examples.raws_bytes Tools.computes Rows.computes Tree.computes Shapes.computes Reader.computes Rules.computes Answer.computes Readings.computes PlaceRows.computes Moved.computes Sheet.computes
buffer = refl
