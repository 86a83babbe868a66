-- Runs of batches: which members see what, where the fresh names and the shares begin, and who is refused with whom.
use Rattle.std.specs.Prelude.{◌≡◌, refl, Bool, true, false, ◌&&◌, List, [], ◌∷◌, ◌++◌, map, ℕ, ◌+◌, ◌*◌, eqb, length, replicate}
use Rattle.std.proofs.Math.Option.{Option, none, some}
use Rattle.rules.specs.Tools
use Rattle.rules.specs.Versions.{Setting, version1, version2, today, newer, base, all}
use Rattle.rules.specs.Rows
use Rattle.rules.specs.Rows.{Row, Raw, raw}
use Rattle.rules.specs.Tree
use Rattle.rules.specs.Tree.{Scope}
use Rattle.rules.specs.Shapes
use Rattle.rules.specs.Reader
use Rattle.rules.specs.Rules
use Rattle.rules.specs.Answer
use Rattle.rules.specs.Answer.{AnswerOf, Answer, accepted, answer, same_numbers, rows_bytes, form_bytes}
use Rattle.rules.specs.Readings
use Rattle.read_form.specs.ReadForm
use Rattle.read_form.specs.ReadForm.{read_form}
use Rattle.moving.specs.Moved
use Rattle.batching.specs.Batch
use Rattle.batching.specs.Batch.{BatchAnswer, refused, done, member_answer, member_output, batch_answer, batch_outputs}
use Rattle.batching.specs.BatchBytes
use Rattle.batching.specs.BatchBytes.{Buffers, packed_batch, bytes_answer, bytes_buffers}
use Rattle.batching.specs.BatchCalls
use Rattle.clearing.specs.Cleared.{cleared}
use Rattle.batching.specs.BatchCalls.{member_call, member_leaves, batch_call, batch_leaves}
use Rattle.batching.specs.BatchReadings
use Rattle.batching.specs.BatchReadings.{Meant, in_prelude, in_member, member_means}
use Rattle.rules.specs.Examples
use Rattle.rules.specs.Examples.{Expected, refusal, rows, raws_bytes, input_bytes, agrees}
use Rattle.rules.specs.FurtherRuns.{nested}

-- ---- what is expected

unfoldable all_agree : List Answer → List Expected → Bool
all_agree [] [] = true
all_agree [] (e ∷ es) = false
all_agree (a ∷ rest) [] = false
all_agree (a ∷ rest) (e ∷ es) = agrees a e && all_agree rest es

-- a batch that is refused, and one that is not
unfoldable refused_with : (number place : ℕ) → BatchAnswer → Bool
refused_with number place (refused n p c) = eqb n number && eqb p place
refused_with number place (done out answers) = false

unfoldable done_with : (prelude : List Raw) → List Expected → BatchAnswer → Bool
done_with prelude es (refused n p c) = false
done_with prelude es (done out answers) = same_numbers (rows_bytes out) (raws_bytes prelude) && all_agree answers es

abbrev one : Setting
one = record { version = version1; rules = today }

-- another version, and its other rule set
abbrev other : Setting
other = record { version = version2; rules = today }

abbrev latest : Setting
latest = record { version = version2; rules = newer }

unfoldable root : List Raw → List Raw
root rs = raw 7 0 0 0 0 0 ∷ (rs ++ (raw 8 0 0 0 0 0 ∷ []))

unfoldable forms : List (List Raw) → List (List ℕ)
forms = map (input_bytes one)

-- with room for the prelude, and so much for each member
unfoldable run : (prelude : List Raw) (share : ℕ) → List (List ℕ) → BatchAnswer
run prelude share members = batch_answer base (input_bytes one prelude) members (8 + 64 * length prelude) (share * length members)

-- ---- a prelude, and members

-- in a component of name 9: type 1; an instance; type 6, by an export of that instance; type 4
unfoldable pub decoders : List Raw
decoders =
    raw 7 0 0 9 0 0
    ∷ raw 1 12 0 0 0 0 ∷ raw 2 9 0 1 0 0
    ∷ raw 1 21 0 0 0 0 ∷ raw 2 10 0 5 0 0 ∷ raw 3 9 0 0 0 0
    ∷ raw 1 22 0 0 0 0 ∷ raw 2 9 0 6 0 0 ∷ raw 3 9 1 5 1 40 ∷ raw 4 0 0 7 0 0
    ∷ raw 1 12 0 0 0 0 ∷ raw 2 9 0 4 0 0
    ∷ raw 8 0 0 0 0 0
    ∷ []

-- its alias is type 1, so that type 4 is number 3
unfoldable pub decoders_out : List Raw
decoders_out =
    raw 7 0 0 9 0 0
    ∷ raw 1 12 0 0 0 0 ∷ raw 2 9 0 1 0 0
    ∷ raw 1 21 0 0 0 0 ∷ raw 2 10 0 5 0 0 ∷ raw 3 9 0 0 0 0
    ∷ raw 1 9 0 0 0 40 ∷ raw 2 9 0 2147483648 0 40 ∷ raw 3 10 0 0 0 40 ∷ raw 9 0 0 7 0 0
    ∷ raw 1 22 0 0 0 0 ∷ raw 2 9 0 6 0 0 ∷ raw 3 9 0 1 0 40
    ∷ raw 1 12 0 0 0 0 ∷ raw 2 9 0 4 0 0
    ∷ raw 8 0 0 0 0 0
    ∷ []

-- a type 1 that names the type `name`
unfoldable pub naming : (name : ℕ) → List Raw
naming name = raw 7 0 0 0 0 0 ∷ raw 1 12 0 0 0 0 ∷ raw 2 9 0 1 0 0 ∷ raw 3 9 1 name 0 70 ∷ raw 8 0 0 0 0 0 ∷ []

-- the prelude's type number `n`, through an alias with count 1; the first fresh name again
unfoldable pub naming_out : (n : ℕ) → List Raw
naming_out n =
    raw 7 0 0 0 0 0
    ∷ raw 1 11 0 0 0 70 ∷ raw 2 9 0 2147483648 0 70 ∷ raw 5 9 0 1 n 70
    ∷ raw 1 12 0 0 0 0 ∷ raw 2 9 0 1 0 0 ∷ raw 3 9 0 0 0 70
    ∷ raw 8 0 0 0 0 0
    ∷ []

-- the same two scopes in
unfoldable in_component : List Raw
in_component =
    raw 7 0 0 0 0 0
    ∷ raw 1 12 0 0 0 0 ∷ raw 2 9 0 2 0 0 ∷ raw 3 9 1 1 0 71
    ∷ raw 1 6 0 0 0 0 ∷ raw 2 11 0 3 0 0 ∷ raw 7 0 0 3 0 0
    ∷ raw 1 12 0 0 0 0 ∷ raw 2 9 0 0 0 0 ∷ raw 3 9 1 4 0 72
    ∷ raw 8 0 0 0 0 0
    ∷ raw 8 0 0 0 0 0
    ∷ []

unfoldable in_component_out : List Raw
in_component_out =
    raw 7 0 0 0 0 0
    ∷ raw 1 11 0 0 0 71 ∷ raw 2 9 0 2147483648 0 71 ∷ raw 5 9 0 1 0 71
    ∷ raw 1 12 0 0 0 0 ∷ raw 2 9 0 2 0 0 ∷ raw 3 9 0 0 0 71
    ∷ raw 1 6 0 0 0 0 ∷ raw 2 11 0 3 0 0 ∷ raw 7 0 0 3 0 0
    ∷ raw 1 11 0 0 0 72 ∷ raw 2 9 0 2147483649 0 72 ∷ raw 5 9 0 2 3 72
    ∷ raw 1 12 0 0 0 0 ∷ raw 2 9 0 0 0 0 ∷ raw 3 9 0 0 0 72
    ∷ raw 8 0 0 0 0 0
    ∷ raw 8 0 0 0 0 0
    ∷ []

-- an alias from outside with `e` in its OUTER: which of `up` and `at` is a name
unfoldable outward : (e up at : ℕ) → List Raw
outward e up at = raw 7 0 0 0 0 0 ∷ raw 1 11 0 0 0 50 ∷ raw 2 9 0 2 0 0 ∷ raw 5 9 e up at 51 ∷ raw 8 0 0 0 0 0 ∷ []

-- ---- members are answered each by itself

-- Two that name types of the prelude, by their final numbers, each with the first fresh name; one that nothing declares the name of.
members_right : done_with decoders_out (rows (naming_out 3) ∷ rows in_component_out ∷ refusal 9 70 ∷ [])
    (run decoders 776 (forms (naming 4 ∷ in_component ∷ naming 8 ∷ []))) ≡ true
unfolding done_with all_agree run forms decoders decoders_out naming naming_out in_component in_component_out agrees input_bytes raws_bytes Tools.computes Rows.computes Tree.computes Shapes.computes Reader.computes Rules.computes Answer.computes Batch.computes
members_right = refl

-- Counts grow by one scope: OUTER 1 and the name 9 are the prelude's root, OUTER 2 is past it.
counts_right : done_with decoders_out (rows (outward 0 1 3) ∷ rows (outward 0 1 3) ∷ refusal 11 50 ∷ [])
    (run decoders 328 (forms (outward 2 1 4 ∷ outward 3 9 4 ∷ outward 2 2 4 ∷ []))) ≡ true
unfolding done_with all_agree run forms decoders decoders_out outward agrees input_bytes raws_bytes Tools.computes Rows.computes Tree.computes Shapes.computes Reader.computes Rules.computes Answer.computes Batch.computes
counts_right = refl

-- A share that is too short for one is long enough for another.
shares_right : done_with decoders_out (refusal 3 0 ∷ rows (naming_out 3) ∷ [])
    (run decoders 775 (forms (in_component ∷ naming 4 ∷ []))) ≡ true
unfolding done_with all_agree run forms decoders decoders_out naming naming_out in_component agrees input_bytes raws_bytes Tools.computes Rows.computes Tree.computes Shapes.computes Reader.computes Rules.computes Answer.computes Batch.computes
shares_right = refl

-- A member of another version is refused with 1, though that version is in force; the others are answered.
version_right : done_with decoders_out (refusal 1 0 ∷ rows (naming_out 3) ∷ [])
    (batch_answer (one ∷ other ∷ []) (input_bytes one decoders) (input_bytes other (naming 4) ∷ input_bytes one (naming 4) ∷ []) 840 800) ≡ true
unfolding done_with all_agree decoders decoders_out naming naming_out agrees input_bytes raws_bytes Tools.computes Rows.computes Tree.computes Shapes.computes Reader.computes Rules.computes Answer.computes Batch.computes
version_right = refl

-- Under rule set 1 all fields of the prelude are earlier ones, its last too, and for a named index as well. A name of the member's own field
-- is not, though the prelude declares it. A member of rule set 0 is refused with 1.
newer_right : done_with decoders_out (rows (naming_out 3) ∷ refusal 13 70 ∷ rows (outward 0 1 3) ∷ refusal 1 0 ∷ [])
    (batch_answer all (input_bytes latest decoders) (input_bytes latest (naming 4) ∷ input_bytes latest (naming 1) ∷ input_bytes latest (outward 2 1 4) ∷ input_bytes other (naming 4) ∷ []) 848 1344) ≡ true
unfolding done_with all_agree decoders decoders_out naming naming_out outward agrees input_bytes raws_bytes Tools.computes Rows.computes Tree.computes Shapes.computes Reader.computes Rules.computes Answer.computes Batch.computes
newer_right = refl

-- A member opens 31 scopes, its root included; the prelude 32.
depth_right : done_with (root (nested 31)) (rows (root (nested 30)) ∷ refusal 5 93 ∷ []) (run (root (nested 31)) 8072 (forms (root (nested 30) ∷ root (nested 31) ∷ []))) ≡ true
unfolding done_with all_agree run forms root nested agrees input_bytes raws_bytes Tools.computes Rows.computes Tree.computes Shapes.computes Reader.computes Rules.computes Answer.computes Batch.computes
depth_right = refl

-- ---- what a name means

unfoldable means_of : AnswerOf Scope → AnswerOf Scope → Option Meant
means_of (accepted s) (accepted m) = member_means s m (record { way = []; field = 0; at = 0 })
means_of (accepted s) (AnswerOf.refused number place carried) = none
means_of (AnswerOf.refused number place carried) m = none

-- what the first operand of the member's first field means, with `decoders` around it
unfoldable means : (member : List Raw) → Option Meant
means member = means_of (read_form one (input_bytes one decoders)) (read_form one (input_bytes one member))

-- as a number: nothing, a field of the member's root, or one of the prelude's
unfoldable field_meant : Option Meant → ℕ
field_meant none = 0
field_meant (some (in_member d)) = 10 + d.field
field_meant (some (in_prelude d)) = 20 + d.field

-- the type `7` of the instance `name`, exported
unfoldable along : (name : ℕ) → List Raw
along name = root (raw 1 22 0 0 0 0 ∷ raw 2 9 0 3 0 0 ∷ raw 3 9 1 name 1 40 ∷ raw 4 0 0 7 0 0 ∷ raw 1 21 0 0 0 0 ∷ raw 2 10 0 2 0 0 ∷ raw 3 9 0 0 0 0 ∷ [])

-- a core type 1 that names the core type `name`
unfoldable here : (name : ℕ) → List Raw
here name = root (raw 1 4 0 0 0 0 ∷ raw 2 4 0 1 0 0 ∷ raw 3 4 1 name 0 0 ∷ [])

-- A walked name is the member's own before the prelude's. The instance of a path and a here_only_lem name are the member's or nobody's. An OUTER goes
-- to the member's root by 0, to the prelude's by 1 or by its name, and no further.
names_right :
    same_numbers
    (map (λ (member : List Raw). field_meant (means member))
    (naming 4 ∷ naming 1 ∷ naming 8 ∷ along 2 ∷ along 5 ∷ here 1 ∷ here 4 ∷ outward 2 0 2 ∷ outward 2 0 4 ∷ outward 2 1 4 ∷ outward 3 9 4 ∷ outward 2 2 4 ∷ outward 3 8 4 ∷ []))
    (23 ∷ 10 ∷ 0 ∷ 11 ∷ 0 ∷ 10 ∷ 0 ∷ 10 ∷ 0 ∷ 23 ∷ 23 ∷ 0 ∷ 0 ∷ []) ≡ true
unfolding field_meant means means_of decoders naming along here outward root input_bytes raws_bytes Tools.computes Rows.computes Tree.computes Shapes.computes Reader.computes Rules.computes Answer.computes ReadForm.computes Readings.computes Moved.computes BatchReadings.computes
names_right = refl

-- ---- the whole batch is refused

-- No member, or nine, ahead of all else; a prelude with its number and place.
refusals_right :
    (refused_with 2 0 (run decoders 328 [])
    && (refused_with 2 0 (run (naming 8) 328 (forms (replicate 9 (naming 4))))
    && (refused_with 9 70 (run (naming 8) 328 (forms (naming 1 ∷ [])))
    && (refused_with 3 0 (batch_answer base (input_bytes one decoders) (forms (naming 4 ∷ [])) 839 328)
    && refused_with 1 0 (batch_answer base (input_bytes other decoders) (forms (naming 4 ∷ [])) 840 328))))) ≡ true
unfolding refused_with run forms decoders naming input_bytes raws_bytes Tools.computes Rows.computes Tree.computes Shapes.computes Reader.computes Rules.computes Answer.computes Batch.computes
refusals_right = refl

-- ---- the buffers

-- 841 bytes for the prelude, of which one lies beyond its form's part; three for each member
unfoldable buffers : (prelude : List Raw) (members : List (List Raw)) → List ℕ × List ℕ
buffers prelude members = batch_outputs base (input_bytes one prelude) (forms members) (replicate 841 7) (replicate 987 6)

unfoldable holding : (prelude members : List ℕ) → List ℕ × List ℕ → Bool
holding prelude members out = same_numbers out.0 prelude && same_numbers out.1 members

-- Two members share 987 bytes: 493 each, and one stays. The first is refused by the steps, the second accepted.
-- A refused prelude, here by the steps, leaves every share, and so does a bad count, which leaves the prelude's buffer too.
buffers_right :
    (holding (input_bytes one decoders_out ++ (replicate 576 0 ++ replicate 1 7))
    (replicate 328 0 ++ (replicate 165 6 ++ (input_bytes one (naming_out 3) ++ (replicate 192 0 ++ replicate 166 6)))) (buffers decoders (naming 8 ∷ naming 4 ∷ []))
    && (holding (replicate 328 0 ++ replicate 513 7) (replicate 987 6) (buffers (naming 8) (naming 4 ∷ []))
    && holding (replicate 841 7) (replicate 987 6) (buffers decoders []))) ≡ true
unfolding holding buffers forms decoders decoders_out naming naming_out input_bytes raws_bytes Tools.computes Rows.computes Tree.computes Shapes.computes Reader.computes Rules.computes Answer.computes Batch.computes
buffers_right = refl

-- ---- one member by itself

-- Inside an accepted prelude its own rows and refusals; a prelude's refusals are told by 200 more, with the prelude's place.
alone_right :
    (agrees (member_answer base (input_bytes one decoders) 840 (input_bytes one (naming 4)) 328) (rows (naming_out 3))
    && (agrees (member_answer base (input_bytes one decoders) 840 (input_bytes one (naming 8)) 328) (refusal 9 70)
    && (agrees (member_answer base (input_bytes one decoders) 840 (input_bytes one (naming 4)) 327) (refusal 3 0)
    && (agrees (member_answer base (input_bytes one (naming 8)) 328 (input_bytes one (naming 4)) 328) (refusal 209 70)
    && (agrees (member_answer base (input_bytes one decoders) 839 (input_bytes one (naming 4)) 328) (refusal 203 0)
    && agrees (member_answer base (input_bytes other decoders) 848 (input_bytes one (naming 4)) 328) (refusal 201 0)))))) ≡ true
unfolding decoders naming naming_out agrees input_bytes raws_bytes Tools.computes Rows.computes Tree.computes Shapes.computes Reader.computes Rules.computes Answer.computes Batch.computes
alone_right = refl

-- A member that is accepted, one that the steps refuse, and one whose prelude is refused: the last leaves its buffer.
alone_buffers :
    (same_numbers (member_output base (input_bytes one decoders) 840 (input_bytes one (naming 4)) (replicate 330 6)) (input_bytes one (naming_out 3) ++ (replicate 192 0 ++ replicate 2 6))
    && (same_numbers (member_output base (input_bytes one decoders) 840 (input_bytes one (naming 8)) (replicate 330 6)) (replicate 328 0 ++ replicate 2 6)
    && same_numbers (member_output base (input_bytes one (naming 8)) 840 (input_bytes one (naming 4)) (replicate 330 6)) (replicate 330 6))) ≡ true
unfolding decoders naming naming_out input_bytes raws_bytes Tools.computes Rows.computes Tree.computes Shapes.computes Reader.computes Rules.computes Answer.computes Batch.computes
alone_buffers = refl

-- ---- in bytes

-- two members of 88 bytes each, one behind the other; the buffers as above, and one for the answers
unfoldable two : List ℕ
two = input_bytes one (naming 8) ++ input_bytes one (naming 4)

unfoldable held : (answers : ℕ) → Buffers
held answers = record { prelude = replicate 841 7; outs = replicate 987 6; answers = replicate answers 5 }

unfoldable in_bytes : (prelude : List Raw) (members lengths : List ℕ) (answers : ℕ) → ℕ × Buffers
in_bytes prelude members lengths answers =
    (packed_batch (bytes_answer base (input_bytes one prelude) members lengths 841 987 answers), bytes_buffers base (input_bytes one prelude) members lengths (held answers))

unfoldable bytes_are : (number : ℕ) (prelude outs answers : List ℕ) → ℕ × Buffers → Bool
bytes_are number prelude outs answers r =
    eqb r.0 number && (same_numbers r.1.prelude prelude && (same_numbers r.1.outs outs && same_numbers r.1.answers answers))

-- The batch is answered with the prelude's 16 rows; the first member with 9 at place 70, the second with 8 rows.
bytes_right :
    bytes_are 16 (input_bytes one decoders_out ++ (replicate 576 0 ++ replicate 1 7))
    (replicate 328 0 ++ (replicate 165 6 ++ (input_bytes one (naming_out 3) ++ (replicate 192 0 ++ replicate 166 6))))
    (70 ∷ 0 ∷ 0 ∷ 0 ∷ 9 ∷ 0 ∷ 0 ∷ 0 ∷ 8 ∷ 0 ∷ 0 ∷ 0 ∷ 0 ∷ 0 ∷ 0 ∷ 0 ∷ 5 ∷ [])
    (in_bytes decoders two (88 ∷ 88 ∷ []) 17) ≡ true
unfolding bytes_are in_bytes held two decoders decoders_out naming naming_out input_bytes raws_bytes Tools.computes Rows.computes Tree.computes Shapes.computes Reader.computes Rules.computes Answer.computes Batch.computes BatchBytes.computes
bytes_right = refl

-- Lengths that do not add up, and none: 2. A buffer that is one byte short of two answers: 3. Neither touches a buffer, and both come ahead of a
-- prelude that is refused; that one leaves the shares and the answers.
bytes_refused :
    (bytes_are 8589934592 (replicate 841 7) (replicate 987 6) (replicate 17 5) (in_bytes (naming 8) two (88 ∷ 87 ∷ []) 17)
    && (bytes_are 8589934592 (replicate 841 7) (replicate 987 6) (replicate 17 5) (in_bytes (naming 8) [] [] 17)
    && (bytes_are 12884901888 (replicate 841 7) (replicate 987 6) (replicate 15 5) (in_bytes (naming 8) two (88 ∷ 88 ∷ []) 15)
    && bytes_are 38654705734 (replicate 328 0 ++ replicate 513 7) (replicate 987 6) (replicate 16 5) (in_bytes (naming 8) two (88 ∷ 88 ∷ []) 16)))) ≡ true
unfolding bytes_are in_bytes held two naming input_bytes raws_bytes Tools.computes Rows.computes Tree.computes Shapes.computes Reader.computes Rules.computes Answer.computes Batch.computes BatchBytes.computes
bytes_refused = refl

-- ---- calls with working areas

-- One member: its rows; a prelude that the steps refuse, by 200 more; an area that is too short, behind a header of another version.
calls_right :
    same_numbers
    (member_call base false (input_bytes one decoders) 840 (input_bytes one (naming 4)) 328
    ∷ member_call base false (input_bytes one (naming 8)) 840 (input_bytes one (naming 4)) 328
    ∷ member_call base true (input_bytes one decoders) 840 (input_bytes one (naming 4)) 328
    ∷ member_call base true (input_bytes other decoders) 848 (input_bytes one (naming 4)) 328
    ∷ batch_call base true (input_bytes one decoders) two (88 ∷ 88 ∷ []) (held 16)
    ∷ batch_call base true (input_bytes one decoders) two (88 ∷ 87 ∷ []) (held 16)
    ∷ [])
    (8 ∷ 897648164934 ∷ 871878361088 ∷ 863288426496 ∷ 12884901888 ∷ 8589934592 ∷ []) ≡ true
unfolding two held decoders naming input_bytes raws_bytes Tools.computes Rows.computes Tree.computes Shapes.computes Reader.computes Rules.computes Answer.computes Batch.computes BatchBytes.computes BatchCalls.computes
calls_right = refl

-- An area is zero up to its size, or all of it, and stays beyond; one that is too short leaves every buffer.
areas_right :
    (same_numbers (cleared 0 3 (7 ∷ 7 ∷ 7 ∷ 7 ∷ [])) (0 ∷ 0 ∷ 0 ∷ 7 ∷ []) && (same_numbers (cleared 0 3 (7 ∷ 7 ∷ [])) (0 ∷ 0 ∷ [])
    && (same_numbers (member_leaves base true (input_bytes one decoders) 840 (input_bytes one (naming 4)) (replicate 330 6)) (replicate 330 6)
    && same_numbers (batch_leaves base true (input_bytes one decoders) two (88 ∷ 88 ∷ []) (held 16)).prelude (replicate 841 7)))) ≡ true
unfolding cleared two held decoders naming input_bytes raws_bytes Tools.computes Rows.computes Tree.computes Shapes.computes Reader.computes Rules.computes Answer.computes Batch.computes BatchBytes.computes BatchCalls.computes
areas_right = refl
