-- `batch_parts::member_at` meets its contract. The invariant: the member is the same one of those that are left.
use mathlib.Core.Path.{◌≡◌}
use mathlib.Core.List.{[]}
use Prim.Native.Nat.{◌≤◌, ◌<◌}
use lib.ListN.{length, get_or}
use Rattle.batching.specs.BatchBytes.{cut}
use Rattle.batch_parts.proofs.Ways.{From}
use Rattle.batch_parts.proofs.member_at.Given as goal

abbrev pub invariant-loop-k : goal.invariant-loop-k
invariant-loop-k l = (From l.lengths l.members l.k l.at l.i ≡ get_or (cut l.lengths l.members) l.i []) × (l.at ≤ length l.members) × (l.k ≤ l.i) × (l.i < length l.lengths)
