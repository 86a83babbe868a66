-- The whole check as the code takes it.
use Rattle.std.specs.Prelude.{◌≡◌, false, List, [], ℕ, ◌+◌, ◌*◌, ◌%◌, ◌<◌, ltb, length, drop, Result, Ok, Err, ⊤}
use Rattle.kit.specs.Pick.{pick}
use Rattle.kit.specs.Out.{Out, ◌&◌}
use Rattle.rules.specs.Versions.{Version, RuleSet, as_claimed}
use Rattle.rules.specs.Tree.{Scope}
use Rattle.rules.specs.Rules.{resolve}
use Rattle.rules.specs.Answer.{AnswerOf, refused, accepted}
use Rattle.read_form.specs.ReadForm.{read_form}
use Rattle.limits.specs.Held.{limits_of, setting}
use Rattle.form.specs.Header.{header_to, refusal_of}
use Rattle.whole_form.specs.Whole.{form_of}
use Rattle.refusal.specs.Refusals.{refusal_at}
use Rattle.resolver.specs.Steps.{steps_t, steps_of}
use Rattle.checking.specs.CheckAnswer.{slots_of, links_of}
use Rattle.claim_rows.specs.Left.{rows_at}
use Rattle.claim_rows.specs.Same.{differs_t}
use Rattle.claim_aliases.specs.Aliases.{Names, try_aliases_t}
use Rattle.claim_check.specs.declared.Verdict.TheVariants.{Yes, No}
use Rattle.claim_numbers.specs.Enter.{entries_t}
use Rattle.claim_operands.specs.Operands.{try_operands_t}
use Rattle.claim_check.specs.declared.Verdict.{Verdict}
use Rattle.form.specs.declared.header.BadHeader.{BadHeader}
use Rattle.refusal.specs.declared.Refusal.{Refusal}

-- the index has a link for each slot, and its numbers are wide enough
pub record Fit (slots links : ℕ) : Type 0 where
  pub links_are : links ≡ 1024 + slots
  pub few : slots < 65536

-- the condition is broken, first at this row
abbrev pub no_t : (condition row : ℕ) → Result Verdict Refusal
no_t condition row = Ok (No condition (row % 4294967296))

-- a refusal whose number document 01 gives, at place 0
abbrev pub refused_t : (number place : ℕ) → Result Verdict Refusal
refused_t number place = Err (record { number = number; place = place })

-- ---- the conditions, with room for this many slots

unfoldable pub unless_t : (condition : ℕ) → Result ⊤ ℕ → Result Verdict Refusal → Result Verdict Refusal
unless_t condition (Ok tt) v = v
unless_t condition (Err row) v = no_t condition row

unfoldable pub tried_in : Names → Result ⊤ ℕ
tried_in (a & ss) = a

-- condition 4, where the others hold
unfoldable pub fourth_t : (input claim : List ℕ) (room : ℕ) → Result Verdict Refusal
fourth_t input claim room =
    let ss = entries_t room 0 false [] [] [] (rows_at claim 0) in
    unless_t 4 (try_operands_t ss claim (length ss) 0 false [] (rows_at claim 0) (rows_at input 0)) (Ok Yes)

-- condition 3 and then 4, where condition 2 holds
unfoldable pub third_t : (input claim : List ℕ) (room : ℕ) → Result Verdict Refusal
third_t input claim room = unless_t 3 (tried_in (try_aliases_t room 0 false [] [] (rows_at claim 0))) (fourth_t input claim room)

-- the conditions on the rows of both forms
unfoldable pub conditions_t : (input claim : List ℕ) (room : ℕ) → Result Verdict Refusal
conditions_t input claim room = unless_t 2 (differs_t 0 0 (rows_at claim 0) (rows_at input 0)) (third_t input claim room)

-- ---- under the setting at place i of the list of all

-- the version of the setting at place i
abbrev pub version_of : (i : ℕ) → Version
version_of i = (setting i).version

-- the rows behind the header of the setting at place i
abbrev pub body_of : (i : ℕ) → List ℕ → List ℕ
body_of i form = drop (version_of i).header form

-- the claim is read,
unfoldable pub claim_by : (i : ℕ) (form claim : List ℕ) (room : ℕ) → Result ℕ Refusal → Result Verdict Refusal
claim_by i form claim room (Err why) = Ok (No 1 why.place)
claim_by i form claim room (Ok rows) = conditions_t (body_of i form) (body_of i claim) room

-- after the steps on the input,
unfoldable pub steps_by : (i : ℕ) (form claim : List ℕ) (room : ℕ) → Result ⊤ Refusal → Result Verdict Refusal
steps_by i form claim room (Err why) = Err why
steps_by i form claim room (Ok tt) = claim_by i form claim room (form_of (read_form (as_claimed (setting i)) claim))

-- after it was read
unfoldable pub input_by : (i : ℕ) (form claim : List ℕ) (room : ℕ) → Result ℕ Refusal → Result Verdict Refusal
input_by i form claim room (Err why) = Err why
input_by i form claim room (Ok rows) = steps_by i form claim room (steps_t (body_of i form))

-- the input, then the claim
unfoldable pub judge_t : (i : ℕ) (form claim : List ℕ) (room : ℕ) → Result Verdict Refusal
judge_t i form claim room = input_by i form claim room (form_of (read_form (setting i) form))

-- what is refused of an input that was read, whatever tables the steps have: by its reading, or else by the steps
unfoldable pub input_of : RuleSet → AnswerOf Scope → Result ⊤ Refusal
input_of rules (refused number place carried) = Err (refusal_at number place)
input_of rules (accepted s) = steps_of (resolve rules s)

-- an area is too small
unfoldable pub small_by : Result ℕ BadHeader → Result Verdict Refusal
small_by (Err bad) = Err (refusal_of bad)
small_by (Ok rows) = refused_t 3 0

-- an area is too small: that comes after a wrong header and a wrong row count of the input
unfoldable pub small_t : (i : ℕ) (form : List ℕ) → Result Verdict Refusal
small_t i form = small_by (header_to (limits_of (setting i)) form)

-- the areas have this many slots and links
unfoldable pub decide_t : (i : ℕ) (form claim : List ℕ) (slots links : ℕ) → Result Verdict Refusal
decide_t i form claim slots links =
    pick (ltb slots (slots_of (version_of i))) (small_t i form)
    (pick (ltb links (links_of (version_of i))) (small_t i form)
    (judge_t i form claim (slots_of (version_of i))))

-- an area behind its front: the front is worked in, and the rest stays
pub record Kept {A : Type 0} (size : ℕ) (old new : List A) : Type 0 where
  pub long : length new ≡ length old
  pub rest : drop size new ≡ drop size old
