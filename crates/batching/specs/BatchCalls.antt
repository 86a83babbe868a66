-- What the two C functions of batches answer and leave, with the working areas that they are lent. Each area has a fixed size, by the version of
-- the prelude; `short` says that one of them is below its size.
use Rattle.std.specs.Prelude.{Bool, List, ℕ, length}
use Rattle.rules.specs.Tools.{when◌then◌else◌}
use Rattle.rules.specs.Versions.{Setting}
use Rattle.batching.specs.Batch.{member_answer, member_output}
use Rattle.batching.specs.BatchBytes.{packed, packed_batch, Buffers, bytes_answer, bytes_buffers}

-- ---- working areas

-- Refusal 3: "output shorter than 8 + 64 x rows, or a lent working area below its fixed size". So there is no room for the prelude then.
unfoldable pub room_with : (short : Bool) (room : ℕ) → ℕ
room_with short room = when short then 0 else room

module _ (settings : List Setting) (short : Bool) (prelude : List ℕ) where
  -- ---- one member; `area` is the length of the working area in which the prelude is resolved

  -- what the C function for one member returns
  unfoldable pub member_call : (area : ℕ) (member : List ℕ) (room : ℕ) → ℕ
  member_call area member room = packed (member_answer settings prelude (room_with short area) member room)

  -- what it leaves in the output
  unfoldable pub member_leaves : (area : ℕ) (member old : List ℕ) → List ℕ
  member_leaves area member old = member_output settings prelude (room_with short area) member old

  -- ---- a batch

  -- what the C function for a batch returns
  unfoldable pub batch_call : (members lengths : List ℕ) → Buffers → ℕ
  batch_call members lengths old =
      packed_batch (bytes_answer settings prelude members lengths (room_with short (length old.prelude)) (length old.outs) (length old.answers))

  -- what it leaves in the buffers: a prelude that has no room leaves all as it was
  unfoldable pub batch_leaves : (members lengths : List ℕ) → Buffers → Buffers
  batch_leaves members lengths old = when short then old else bytes_buffers settings prelude members lengths old

-- Unfolds all of this module: for a claim that antt computes.
unfoldable pub computes : Unit {0}
unfolding room_with member_call member_leaves batch_call batch_leaves
computes = tt
