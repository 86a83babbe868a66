-- R-13, the binding sheet: which declaration each reference must mean, and whether it does.
-- A slot names a reference by its place and a declaration by its name. The answer goes by what the reference reaches in the output.
-- Only REF rows count as references: an OUTER that stands at a slot's place is not one. A number that was written counts by what it reaches in
-- the output, like any other. A reference with PATHs reaches its last inserted export alias, whose name no input has.
use Rattle.std.specs.Prelude.{Bool, true, false, ◌&&◌, ◌||◌, not, List, [], ◌∷◌, ◌++◌, map, ℕ, zero, suc, ◌+◌, ◌*◌, ◌/◌, ◌%◌, eqb, leb, ltb, length, take, drop, replicate}
use Rattle.std.proofs.Math.Option.{Option, none, some}
use Rattle.std.proofs.Math.ListN.{get_elem?}
use Rattle.rules.specs.Tools.{when◌then◌else◌, between, only, ◌then◌, ◌or_else◌}
use Rattle.rules.specs.Versions.{Setting}
use Rattle.rules.specs.Rows.{value, bytes, Num, Id}
use Rattle.rules.specs.Tree.{Operand, ref, outer, case, Scope, flatten, RowsRead, bad, deep, form}
use Rattle.rules.specs.Reader.{read}
use Rattle.rules.specs.Rules.{Result, resolve}
use Rattle.rules.specs.Answer.{AnswerOf, refused, accepted, same_numbers, setting_of, row_count, rows_in, form_bytes}
use Rattle.rules.specs.Readings.{Place, Spot, original, inserted, use_at}
use Rattle.places.specs.PlaceRows.{Floor, floors_at, Located, counted_row}
use Rattle.moving.specs.Moved.{places, collect}

-- a slot: the meter family, the place of a reference, the name of the declaration that it must mean
pub record Slot : Type 0 where
  pub family : ℕ
  pub place : ℕ
  pub name : ℕ

-- the answer to a slot
pub data Binding : Type 0 where
  -- bound as written
  as_written : Binding
  -- bound elsewhere: to the declaration at that row of the output; 0 if nothing is reached
  elsewhere : (row : ℕ) → Binding
  -- no reference there, or several
  no_reference : Binding
  several : Binding

-- ---- the references at a place

-- is the operand a REF with `z` for its place?
unfoldable pub is_ref_at : (z : ℕ) → Operand → Bool
is_ref_at z (ref space at paths z') = eqb z z'
is_ref_at z (outer space up at z') = false
is_ref_at z (case name z') = false

-- the place of the operand there, if it is such a REF
unfoldable pub ref_at : Scope → (z : ℕ) → Place → Option Place
ref_at s z p = use_at s p then λ u. only (is_ref_at z u.operand) p

-- where the REFs of a tree stand that have `z` for their place
unfoldable pub refs_at : Scope → (z : ℕ) → List Place
refs_at s z = collect (ref_at s z) (places s)

-- ---- what a reference of the output reaches

-- what the OUTER of an inserted outer alias counts to
unfoldable pub outer_to : List Floor → List Operand → Option Located
outer_to fs [] = none
outer_to fs (ref space at paths z ∷ os) = none
outer_to fs (outer space (Num d) (Num n) z ∷ os) = get_elem? fs d then λ f. counted_row f space n
outer_to fs (outer space (Num d) (Id name) z ∷ os) = none
outer_to fs (outer space (Id name) at z ∷ os) = none
outer_to fs (case name z ∷ os) = none

-- An inserted outer alias (code 11) is followed; an original declaration, an outer alias too, and an inserted export alias are what is
-- reached.
unfoldable pub follow : List Floor → Spot → Located → Option Located
follow fs (original field at) x = some x
follow fs (inserted h) x = when eqb h.code 11 then outer_to fs h.operands else some x

-- what an operand reaches, in the first of these scopes
unfoldable pub reached_from : List Floor → Operand → Option Located
reached_from [] o = none
reached_from (f ∷ fs) (ref space (Num n) paths z) = counted_row f space n then λ x. follow (f ∷ fs) x.standing.spot x
reached_from (f ∷ fs) (ref space (Id name) paths z) = none
reached_from (f ∷ fs) (outer space up at z) = none
reached_from (f ∷ fs) (case name z) = none

-- what the reference at a place reaches
unfoldable pub reached : Scope → Place → Option Located
reached s p = use_at s p then λ u. floors_at s p.way then λ fs. reached_from fs u.operand

-- ---- the answer to a slot

-- bound as written, if what is reached has that name
unfoldable pub bound_to : (name : ℕ) → Option Located → Binding
bound_to name none = elsewhere 0
bound_to name (some x) = when eqb x.standing.decl.name name then as_written else elsewhere x.row

-- the answer, where the references at the slot's place stand at these places
unfoldable pub bound : (after : Scope) (name : ℕ) → List Place → Binding
bound after name [] = no_reference
bound after name (p ∷ []) = bound_to name (reached after p)
bound after name (p ∷ q ∷ ps) = several

-- the answer to a slot, by the trees of the input and of the output
unfoldable pub binding : (before after : Scope) → Slot → Binding
binding before after slot = bound after slot.name (refs_at before slot.place)

-- the answers to all slots, in their order
unfoldable pub bindings : (before after : Scope) → List Slot → List Binding
bindings before after slots = map (binding before after) slots

-- is the slot bound as written?
unfoldable pub is_as_written : Binding → Bool
is_as_written as_written = true
is_as_written (elsewhere row) = false
is_as_written no_reference = false
is_as_written several = false

-- a sheet passes if all its slots are bound as written
unfoldable pub passes : List Binding → Bool
passes [] = true
passes (b ∷ bs) = is_as_written b && passes bs

-- how many slots are not bound as written
unfoldable pub failing : List Binding → ℕ
failing [] = 0
failing (b ∷ bs) = when is_as_written b then failing bs else suc (failing bs)

-- ---- a sheet as bytes: three little-endian numbers a slot

-- `count` slots, twelve bytes each
unfoldable pub slots_of : (count : ℕ) → List ℕ → List Slot
slots_of zero bs = []
slots_of (suc count) bs =
    record { family = value (take 4 bs); place = value (take 4 (drop 4 bs)); name = value (take 4 (drop 8 bs)) } ∷ slots_of count (drop 12 bs)

-- has every slot a name?
unfoldable pub all_named : List Slot → Bool
all_named [] = true
all_named (s ∷ ss) = not (eqb s.name 0) && all_named ss

-- the slots of a sheet, twelve bytes each
unfoldable pub slots : List ℕ → List Slot
slots sheet = slots_of (length sheet / 12) sheet

-- is it a sheet? At most 200 slots, each with a name
unfoldable pub sound_sheet : List ℕ → Bool
sound_sheet sheet = eqb (length sheet % 12) 0 && (leb (length sheet) 2400 && all_named (slots sheet))

-- ---- an accepted input, whatever the output buffer

-- an accepted input: its tree, that of its output, and its resolved form as bytes
pub record Run : Type 0 where
  pub before : Scope
  pub after : Scope
  -- the resolved form
  pub bytes : List ℕ

-- the tree, if the rows are a form
unfoldable pub form_of : RowsRead → Option Scope
form_of (bad place) = none
form_of (deep place) = none
form_of (form s) = some s

-- the tree of the output, if the steps accept
unfoldable pub result_of : Result (Scope × ℕ) → Option Scope
result_of (Result.refused why place) = none
result_of (Result.ok r) = some r.0

-- the run of an input under one setting, if it is accepted
unfoldable pub run_in : Setting → (input : List ℕ) → Option Run
run_in v input =
    let rows = row_count v.version input in
    when not (between 1 v.version.rows rows) || not (eqb (length input) (v.version.header + 16 * rows)) then none
    else (form_of (read v.rules v.version.scopes (rows_in v input)) then λ before.
    result_of (resolve v.rules before) then λ after.
    some (record { before = before; after = after; bytes = form_bytes v (flatten after) }))

-- the run of an input under the setting that its header asks for
unfoldable pub run_of : List Setting → (input : List ℕ) → Option Run
run_of settings input = setting_of settings input then λ v. run_in v input

-- ---- the working area, in which the input is resolved

-- as many bytes as the longest output of a version takes
unfoldable pub area_of : Option Setting → ℕ
area_of none = 0
area_of (some v) = v.version.header + 64 * v.version.rows

-- the first of these settings
unfoldable pub first_of : List Setting → Option Setting
first_of [] = none
first_of (v ∷ vs) = some v

-- how long the working area has to be, by the input's version; by that of the first setting, if the header is not that of any
unfoldable pub work_size : List Setting → (input : List ℕ) → ℕ
work_size settings input = area_of (setting_of settings input or_else first_of settings)

-- Whatever is answered, the area is zero up to that size, or all of it if it is shorter; bytes beyond stay.
unfoldable pub work_after : List Setting → (input old : List ℕ) → List ℕ
work_after settings input old = let size = work_size settings input in replicate (length (take size old)) 0 ++ drop size old

-- ---- the answer, and what the buffer then holds

-- an answer for each slot, if the sheet is accepted
abbrev pub SheetAnswer : Type 0
SheetAnswer = AnswerOf (List Binding)

-- refusal 15 if `resolved` is not the resolved form of the input; then 3, if the buffer has no room for 8 bytes a slot
unfoldable pub answer_for : Option Run → (resolved : List ℕ) → List Slot → (room : ℕ) → SheetAnswer
answer_for none resolved ss room = refused 15 0 []
answer_for (some run) resolved ss room =
    when not (same_numbers resolved run.bytes) then refused 15 0 []
    else when ltb room (8 * length ss) then refused 3 0 []
    else accepted (bindings run.before run.after ss)

-- First the sheet, then the working area, without which nothing is known of the forms. `room` and `work` are the lengths of the buffer for
-- the answers and of the working area.
unfoldable pub sheet_answer : List Setting → (input resolved sheet : List ℕ) (room work : ℕ) → SheetAnswer
sheet_answer settings input resolved sheet room work =
    when not (sound_sheet sheet) then refused 15 0 []
    else when ltb work (work_size settings input) then refused 3 0 []
    else answer_for (run_of settings input) resolved (slots sheet) room

-- the bytes of an answer: 0 as written, 1 elsewhere, 2 no reference, 3 several; then the row or 0
unfoldable pub binding_bytes : Binding → List ℕ
binding_bytes as_written = bytes 4 0 ++ bytes 4 0
binding_bytes (elsewhere row) = bytes 4 1 ++ bytes 4 row
binding_bytes no_reference = bytes 4 2 ++ bytes 4 0
binding_bytes several = bytes 4 3 ++ bytes 4 0

-- the bytes of the answers, eight for each slot
unfoldable pub answers_bytes : List Binding → List ℕ
answers_bytes [] = []
answers_bytes (b ∷ bs) = binding_bytes b ++ answers_bytes bs

-- what the buffer for the answers holds: a refusal leaves it as it was; the bytes beyond the answers stay
unfoldable pub answers_after : SheetAnswer → (old : List ℕ) → List ℕ
answers_after (refused number place carried) old = old
answers_after (accepted bs) old = answers_bytes bs ++ drop (8 * length bs) old

-- Unfolds all of this module: for a claim that antt computes.
unfoldable pub computes : Unit {0}
unfolding is_ref_at ref_at refs_at outer_to follow reached_from reached bound_to bound binding bindings is_as_written passes failing slots_of all_named slots sound_sheet form_of result_of run_in run_of area_of first_of work_size work_after answer_for sheet_answer binding_bytes answers_bytes answers_after
computes = tt
