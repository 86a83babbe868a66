-- A batch as its C function takes it: the members one behind another with their lengths, and the answers as bytes.
use Rattle.std.specs.Prelude.{Bool, ◌||◌, not, List, [], ◌∷◌, ◌++◌, ℕ, ◌+◌, ◌*◌, eqb, ltb, length, take, drop}
use Rattle.rules.specs.Tools.{when◌then◌else◌, between}
use Rattle.rules.specs.Versions.{Setting}
use Rattle.rules.specs.Rows.{bytes}
use Rattle.rules.specs.Answer.{AnswerOf, accepted, Answer}
use Rattle.batching.specs.Batch.{BatchAnswer, refused, done, batch_answer, batch_outputs}

-- ---- the members

-- the sum of the lengths
unfoldable pub sum : List ℕ → ℕ
sum [] = 0
sum (n ∷ ns) = n + sum ns

-- the forms of these lengths, one behind another
unfoldable pub cut : (lengths members : List ℕ) → List (List ℕ)
cut [] members = []
cut (n ∷ ns) members = take n members ∷ cut ns (drop n members)

-- ---- the answers

-- a refusal's number times 2^32 plus its place, or the number of rows that were written
unfoldable pub packed : Answer → ℕ
packed (AnswerOf.refused number place carried) = number * 4294967296 + place
packed (accepted rows) = length rows

-- eight bytes for each member, the lower first
unfoldable pub answers_bytes : List Answer → List ℕ
answers_bytes [] = []
answers_bytes (a ∷ more) = bytes 8 (packed a) ++ answers_bytes more

-- the same of a batch: a refusal, or the number of rows that were written of the prelude
unfoldable pub packed_batch : BatchAnswer → ℕ
packed_batch (refused number place carried) = number * 4294967296 + place
packed_batch (done prelude members) = length prelude

-- ---- the batch

-- "A count of 0 or over 8, or lengths that do not add up to `members`: refusal 2"
unfoldable pub bad_members : (lengths members : List ℕ) → Bool
bad_members lengths members = not (between 1 8 (length lengths)) || not (eqb (sum lengths) (length members))

-- "fewer than 8 bytes in `answers` for each member: 3"
unfoldable pub few_bytes : (lengths : List ℕ) (answers_room : ℕ) → Bool
few_bytes lengths answers_room = ltb answers_room (8 * length lengths)

-- what the prelude's buffer, the members' and that of the answers hold
pub record Buffers : Type 0 where
  pub prelude : List ℕ
  pub outs : List ℕ
  pub answers : List ℕ

-- what the buffer of the answers holds: the answers at the front, if there are any; bytes behind them stay
unfoldable pub answers_after : BatchAnswer → (old : List ℕ) → List ℕ
answers_after (refused number place carried) old = old
answers_after (done prelude members) old = answers_bytes members ++ drop (length (answers_bytes members)) old

module _ (settings : List Setting) (prelude members lengths : List ℕ) where
  -- the answer to a batch, by the lengths of the prelude's buffer, the members' and that of the answers
  unfoldable pub bytes_answer : (prelude_room room answers_room : ℕ) → BatchAnswer
  bytes_answer prelude_room room answers_room =
      when bad_members lengths members then refused 2 0 []
      else when few_bytes lengths answers_room then refused 3 0 []
      else batch_answer settings prelude (cut lengths members) prelude_room room

  -- the three buffers afterwards: "nothing touched" by either refusal ahead of the prelude's
  unfoldable pub bytes_buffers : Buffers → Buffers
  bytes_buffers old =
      when bad_members lengths members || few_bytes lengths (length old.answers) then old
      else (let outs = batch_outputs settings prelude (cut lengths members) old.prelude old.outs in
      record {
        prelude = outs.0;
        outs = outs.1;
        answers = answers_after (batch_answer settings prelude (cut lengths members) (length old.prelude) (length old.outs)) old.answers;
      })

-- Unfolds all of this module: for a claim that antt computes.
unfoldable pub computes : Unit {0}
unfolding sum cut packed answers_bytes packed_batch bad_members few_bytes answers_after bytes_answer bytes_buffers
computes = tt
