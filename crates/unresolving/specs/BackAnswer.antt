-- From the bytes of a resolved form back to those of an input: the answer, and what the output buffer then holds.
-- Refusal 14: no input has these bytes as its output. Refusal 3: the result is longer than the output buffer.
use Rattle.std.specs.Prelude.{Bool, false, List, [], ◌++◌, ℕ, ◌+◌, ◌*◌, ltb, length, drop}
use Rattle.std.proofs.Math.Option.{Option, none, some}
use Rattle.rules.specs.Tools.{when◌then◌else◌, only, ◌then◌}
use Rattle.rules.specs.Versions.{Setting, claimed}
use Rattle.rules.specs.Tree.{Scope, flatten, RowsRead, bad, deep, form}
use Rattle.rules.specs.Reader.{read}
use Rattle.rules.specs.Answer
use Rattle.rules.specs.Answer.{Answer, accepted, same_numbers, setting_of, row_count, rows_in, answer_in, form_bytes}
use Rattle.unresolving.specs.Back.{unresolve}

-- the bytes of an accepted answer
unfoldable pub form_of : Setting → Answer → Option (List ℕ)
form_of s (Answer.refused number place carried) = none
form_of s (accepted rs) = some (form_bytes s rs)

-- the form that is written for an input, where the output has the room that it needs
unfoldable pub outcome : List Setting → (input : List ℕ) → Option (List ℕ)
outcome settings input =
    setting_of settings input then λ s. form_of s (answer_in [] s input (s.version.header + 64 * row_count s.version input))

-- the tree that was read, if the rows are a form
unfoldable pub tree_of : RowsRead → Option Scope
tree_of (bad place) = none
tree_of (deep place) = none
tree_of (form s) = some s

-- the resolved form, read with the names and the rows that an output may have
unfoldable pub read_claim : Setting → (claim : List ℕ) → Option Scope
read_claim s claim = tree_of (read s.rules s.version.scopes (rows_in (record { version = claimed s.version; rules = s.rules }) claim))

-- is the claim the outcome?
unfoldable pub is_outcome : Option (List ℕ) → (claim : List ℕ) → Bool
is_outcome none claim = false
is_outcome (some bs) claim = same_numbers bs claim

-- an input whose output is `claim`, if one is found
unfoldable pub back : List Setting → (claim : List ℕ) → Option (List ℕ)
back settings claim =
    setting_of settings claim then λ s. read_claim s claim then λ t.
    let input = form_bytes s (flatten (unresolve t)) in
    only (is_outcome (outcome settings input) claim) input

-- ---- the answer, and the output buffer: its bytes behind the result stay

-- the answer: a refusal and its place, or the bytes of an input
pub data Returned : Type 0 where
  refused : (number place : ℕ) → Returned
  given : List ℕ → Returned

-- refusal 14, if there is no such input; refusal 3, if it is longer than the output
unfoldable pub in_room : (room : ℕ) → Option (List ℕ) → Returned
in_room room none = refused 14 0
in_room room (some bs) = when ltb room (length bs) then refused 3 0 else given bs

-- the answer where the output has `room` bytes
unfoldable pub back_answer : List Setting → (claim : List ℕ) (room : ℕ) → Returned
back_answer settings claim room = in_room room (back settings claim)

-- what the output buffer holds after this answer
unfoldable pub over : Returned → (old : List ℕ) → List ℕ
over (refused number place) old = old
over (given bs) old = bs ++ drop (length bs) old

-- what the output buffer holds after a claim is answered
unfoldable pub back_output : List Setting → (claim old : List ℕ) → List ℕ
back_output settings claim old = over (back_answer settings claim (length old)) old

-- Unfolds all of this module: for a claim that antt computes.
unfoldable pub computes : Unit {0}
unfolding form_of outcome tree_of read_claim is_outcome back in_room back_answer over back_output
computes = tt
