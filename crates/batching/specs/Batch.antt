-- A batch (request R-10, whose clauses are quoted): "one prelude form and up to 8 member forms. Each member is resolved as if its root lay
-- inside the resolved prelude's root."
use Rattle.std.proofs.Math.Option.{Option, none, some}
use Rattle.std.specs.Prelude.{List, [], ◌∷◌, ◌++◌, ℕ, suc, ◌+◌, ◌/◌, length, take, drop}
use Rattle.rules.specs.Tools.{when◌then◌else◌, between}
use Rattle.rules.specs.Versions.{Setting}
use Rattle.rules.specs.Rows.{Row}
use Rattle.rules.specs.Tree.{Scope, scope, flatten, Fields, end, ◌▸◌, head_of, item_rows}
use Rattle.rules.specs.Rules.{Entry, Env, declarations, entered}
use Rattle.rules.specs.Answer.{AnswerOf, accepted, map_answer, Answer, setting_of, form_in, answer_inside, output, output_inside}

-- ---- the prelude

-- the DECLs of fields, the first field in this row
unfoldable pub entered_fields : (row : ℕ) → Fields → List Entry
entered_fields row end = []
entered_fields row (i ▸ fs) = entered (suc row) (head_of i).decls ++ entered_fields (row + length (item_rows i)) fs

-- the root of a resolved form, with its rows there, as the scope around another form: "all its fields are earlier ones"
unfoldable pub root_of : Scope → Env
root_of (scope kind name fs) = record { name = name; entries = entered_fields 1 fs; before = declarations fs }

-- a resolved prelude: its setting and its form
pub record Prelude : Type 0 where
  pub setting : Setting
  pub resolved : Scope

-- the resolved prelude under this setting, or its refusal; `room` is the length of the buffer in which it is resolved
unfoldable pub prelude_in : Option Setting → (prelude : List ℕ) (room : ℕ) → AnswerOf Prelude
prelude_in none prelude room = AnswerOf.refused 1 0 []
prelude_in (some s) prelude room = map_answer (λ t. record { setting = s; resolved = t }) (form_in [] s prelude room)

-- the prelude under the setting that its header asks for, resolved in `room` bytes
abbrev pub prelude_of : List Setting → (prelude : List ℕ) (room : ℕ) → AnswerOf Prelude
prelude_of settings prelude room = prelude_in (setting_of settings prelude) prelude room

-- ---- a member, in the setting `s` of the prelude and inside its root

-- "A member whose version or rule set isn't the prelude's gets refusal 1": no other setting is there
abbrev pub inside_answer : Setting → (root : Env) → (member : List ℕ) (room : ℕ) → Answer
inside_answer s root member room = answer_inside (root ∷ []) (s ∷ []) member room

-- what a member's output then holds, if it held `old` before
abbrev pub inside_output : Setting → (root : Env) → (member old : List ℕ) → List ℕ
inside_output s root member old = output_inside (root ∷ []) (s ∷ []) member old

-- ---- one member by itself

-- what is added to the number of a prelude's refusal, so that it can be told from a refusal of the member
abbrev pub of_prelude : ℕ
of_prelude = 200

-- the answer to a member after that for the prelude
abbrev pub member_after : AnswerOf Prelude → (member : List ℕ) (room : ℕ) → Answer
member_after (AnswerOf.refused number place carried) member room = AnswerOf.refused (of_prelude + number) place carried
member_after (accepted p) member room = inside_answer p.setting (root_of p.resolved) member room

-- what a member's output holds after that answer: it stays if the prelude is refused
abbrev pub member_writes : AnswerOf Prelude → (member old : List ℕ) → List ℕ
member_writes (AnswerOf.refused number place carried) member old = old
member_writes (accepted p) member old = inside_output p.setting (root_of p.resolved) member old

-- "A member's bytes and refusal depend on the prelude, its own form and its share's length, and on nothing another vendor sends."
-- `work` is the length of the buffer in which the prelude is resolved, `room` that of the member's output.
unfoldable pub member_answer : List Setting → (prelude : List ℕ) (work : ℕ) (member : List ℕ) (room : ℕ) → Answer
member_answer settings prelude work member room = member_after (prelude_of settings prelude work) member room

-- what a member's output holds after the call, where it held `old` before
unfoldable pub member_output : List Setting → (prelude : List ℕ) (work : ℕ) (member old : List ℕ) → List ℕ
member_output settings prelude work member old = member_writes (prelude_of settings prelude work) member old

-- ---- the members of a batch

module _ (s : Setting) (root : Env) (share : ℕ) where
  -- the answers to the members, each by itself: it has nothing of the others
  unfoldable pub member_answers : List (List ℕ) → List Answer
  member_answers [] = []
  member_answers (m ∷ ms) = inside_answer s root m share ∷ member_answers ms

  -- the members' outputs, each in its share of the buffer, by position; "left-over bytes stay"
  unfoldable pub member_outputs : List (List ℕ) → (old : List ℕ) → List ℕ
  member_outputs [] old = old
  member_outputs (m ∷ ms) old = inside_output s root m (take share old) ++ member_outputs ms (drop share old)

-- "by position, an equal share of the output, rounded down"
unfoldable pub share_of : (members : List (List ℕ)) (room : ℕ) → ℕ
share_of members room = room / length members

-- ---- the batch

-- a refusal of the whole batch, or the rows of the prelude and an answer for each member
pub data BatchAnswer : Type 0 where
  refused : (number place : ℕ) (carried : List ℕ) → BatchAnswer
  done : (prelude : List Row) (members : List Answer) → BatchAnswer

-- "A refused prelude refuses the batch with its number and place"; `room` is the length of the members' buffer
unfoldable pub after_prelude : AnswerOf Prelude → (members : List (List ℕ)) (room : ℕ) → BatchAnswer
after_prelude (AnswerOf.refused number place carried) members room = refused number place carried
after_prelude (accepted p) members room =
    done (flatten p.resolved) (member_answers p.setting (root_of p.resolved) (share_of members room) members)

-- "so does a member count of 0 or over 8, with 2, ahead of all else"
unfoldable pub batch_answer : List Setting → (prelude : List ℕ) (members : List (List ℕ)) (prelude_room room : ℕ) → BatchAnswer
batch_answer settings prelude members prelude_room room =
    when between 1 8 (length members) then after_prelude (prelude_of settings prelude prelude_room) members room
    else refused 2 0 []

-- ---- the two output buffers: "The prelude has its own output", and the members share one

-- if the prelude is refused, "all members' shares are unchanged"
unfoldable pub shares_after : AnswerOf Prelude → (members : List (List ℕ)) (old : List ℕ) → List ℕ
shares_after (AnswerOf.refused number place carried) members old = old
shares_after (accepted p) members old = member_outputs p.setting (root_of p.resolved) (share_of members (length old)) members old

-- what the prelude's output and the members' then hold, if they held these before
unfoldable pub batch_outputs : List Setting → (prelude : List ℕ) (members : List (List ℕ)) (old_prelude old : List ℕ) → List ℕ × List ℕ
batch_outputs settings prelude members old_prelude old =
    when between 1 8 (length members)
    then (output settings prelude old_prelude, shares_after (prelude_of settings prelude (length old_prelude)) members old)
    else (old_prelude, old)

-- Unfolds all of this module: for a claim that antt computes.
unfoldable pub computes : Unit {0}
unfolding entered_fields root_of prelude_in member_answer member_output member_answers member_outputs share_of after_prelude batch_answer shares_after batch_outputs
computes = tt
