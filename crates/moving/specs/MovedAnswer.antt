-- R-1 on bytes: the answer for an input with the two lists, and what the three buffers then hold.
use Rattle.std.specs.Prelude.{Bool, ◌||◌, not, List, [], ◌∷◌, ◌++◌, ℕ, ◌+◌, ◌*◌, eqb, ltb, length}
use Rattle.std.proofs.Math.Option.{Option, none, some}
use Rattle.rules.specs.Tools.{when◌then◌else◌, between}
use Rattle.rules.specs.Versions.{RuleSet, Setting}
use Rattle.rules.specs.Rows.{bytes, Row}
use Rattle.rules.specs.Tree.{Scope, flatten, RowsRead, bad, deep, form}
use Rattle.rules.specs.Reader.{read}
use Rattle.rules.specs.Rules.{resolve}
use Rattle.rules.specs.Answer.{AnswerOf, refused, accepted, map_answer, Answer, setting_of, row_count, rows_in, resolved, written, output_after}
use Rattle.moving.specs.Moved.{MovedNumber, NoItem, moved, apart}

-- ---- the answer

-- what is accepted: the rows that are written, and the two lists
pub record WithLists : Type 0 where
  pub rows : List Row
  pub moved : List MovedNumber
  pub apart : List NoItem

-- the answer to an input: the rows and the two lists, or a refusal
abbrev pub MovedAnswer : Type 0
MovedAnswer = AnswerOf WithLists

-- what is accepted, by the trees of the input and of the output
unfoldable pub listed : (before after : Scope) → WithLists
listed before after = record { rows = flatten after; moved = moved before after; apart = apart before }

-- refusals 4 and 5; of a form what the steps answer, with the lists
unfoldable pub of_reading : RuleSet → RowsRead → MovedAnswer
of_reading rules (bad place) = refused 4 place []
of_reading rules (deep place) = refused 5 place []
of_reading rules (form s) = map_answer (listed s) (resolved (resolve rules s))

-- the lengths of the three buffers
pub record Rooms : Type 0 where
  pub out : ℕ
  pub moved : ℕ
  pub apart : ℕ

-- is a buffer too short? The output needs as many bytes as without the lists; the lists need 16 and 12 bytes for each row
unfoldable pub too_short : Setting → (rows : ℕ) → Rooms → Bool
too_short v rows rooms = ltb rooms.out (v.version.header + 64 * rows) || (ltb rooms.moved (16 * rows) || ltb rooms.apart (12 * rows))

-- the answer under one setting: refusals 2 and 3, then the reading, in the order of `form_in`
unfoldable pub moved_in : Setting → (input : List ℕ) → Rooms → MovedAnswer
moved_in v input rooms =
    let rows = row_count v.version input in
    when not (between 1 v.version.rows rows) || not (eqb (length input) (v.version.header + 16 * rows)) then refused 2 0 []
    else when too_short v rows rooms then refused 3 0 []
    else of_reading v.rules (read v.rules v.version.scopes (rows_in v input))

-- the answer under this setting; refusal 1, if the header is not that of any
unfoldable pub moved_for : Option Setting → (input : List ℕ) → Rooms → MovedAnswer
moved_for none input rooms = refused 1 0 []
moved_for (some v) input rooms = moved_in v input rooms

-- the answer under the setting that the input's header asks for
unfoldable pub moved_answer : List Setting → (input : List ℕ) → Rooms → MovedAnswer
moved_answer settings input rooms = moved_for (setting_of settings input) input rooms

-- the same answer without the lists
unfoldable pub plainly : MovedAnswer → Answer
plainly a = map_answer (λ (l : WithLists). l.rows) a

-- what stands below the number 0 of an acceptance: how many are apart, times 65536, and how many have moved
unfoldable pub counts : List MovedNumber → List NoItem → ℕ
counts ms ns = 65536 * length ns + length ms

-- ---- the buffers

-- the bytes of the first list, four for each: place, space, row of the input, row of the output
unfoldable pub moved_bytes : List MovedNumber → List ℕ
moved_bytes [] = []
moved_bytes (m ∷ ms) = (bytes 4 m.z ++ (bytes 4 m.space ++ (bytes 4 m.meant ++ bytes 4 m.gets))) ++ moved_bytes ms

-- the bytes of the list of numbers apart, four for each: place, space, number
unfoldable pub apart_bytes : List NoItem → List ℕ
apart_bytes [] = []
apart_bytes (n ∷ ns) = (bytes 4 n.z ++ (bytes 4 n.space ++ bytes 4 n.number)) ++ apart_bytes ns

-- what the first list's buffer holds: a refusal leaves it as it was; an acceptance writes the entries and zeros behind them up to the size; bytes beyond stay
unfoldable pub moved_after : MovedAnswer → (rows : ℕ) → (old : List ℕ) → List ℕ
moved_after (refused number place carried) rows old = old
moved_after (accepted l) rows old = written (16 * rows) (moved_bytes l.moved) old

-- the same of the list of numbers apart
unfoldable pub apart_after : MovedAnswer → (rows : ℕ) → (old : List ℕ) → List ℕ
apart_after (refused number place carried) rows old = old
apart_after (accepted l) rows old = written (12 * rows) (apart_bytes l.apart) old

-- what the three buffers hold
pub record Buffers : Type 0 where
  pub out : List ℕ
  pub moved : List ℕ
  pub apart : List ℕ

-- how long the three buffers are
unfoldable pub rooms_of : Buffers → Rooms
rooms_of old = record { out = length old.out; moved = length old.moved; apart = length old.apart }

-- what the three buffers hold after this answer
unfoldable pub buffers_after : Setting → MovedAnswer → (rows : ℕ) → Buffers → Buffers
buffers_after v a rows old =
    record { out = output_after v (plainly a) (v.version.header + 64 * rows) old.out; moved = moved_after a rows old.moved; apart = apart_after a rows old.apart }

-- what they hold under this setting; without one they stay as they were
unfoldable pub buffers_for : Option Setting → (input : List ℕ) → Buffers → Buffers
buffers_for none input old = old
buffers_for (some v) input old = buffers_after v (moved_in v input (rooms_of old)) (row_count v.version input) old

-- what the three buffers hold after an input is answered
unfoldable pub buffers : List Setting → (input : List ℕ) → Buffers → Buffers
buffers settings input old = buffers_for (setting_of settings input) input old

-- Unfolds all of this module: for a claim that antt computes.
unfoldable pub computes : Unit {0}
unfolding listed of_reading too_short moved_in moved_for moved_answer plainly counts moved_bytes apart_bytes moved_after apart_after rooms_of buffers_after buffers_for buffers
computes = tt
