-- `batch::shares::in_shares` meets its contract. The invariant: what is left to do leaves what all of it leaves.
use mathlib.Core.Path.{◌≡◌}
use Prim.Native.Nat.{◌-◌, ◌≤◌}
use lib.ListN.{length}
use Rattle.limits.specs.Held.{setting}
use Rattle.inside.specs.Areas.{Suits}
use Rattle.batch.proofs.Ways.{Left}
use Rattle.batch.proofs.shares.in_shares.Given as goal

abbrev pub invariant-loop-j : goal.invariant-loop-j
invariant-loop-j l = Left (setting l.i) l.root l.members l.lengths l.initial.outs l.initial.answers l.j l.outs l.answers × (length l.outs ≡ length l.initial.outs) × (length l.answers ≡ length l.initial.answers) × (length l.lengths ≤ 8) × Suits l.i l.entered l.names l.known l.chains l.ends × (length l.entered ≡ length l.initial.entered) × (length l.names ≡ length l.initial.names) × (length l.known ≡ length l.initial.known) × (length l.chains ≡ length l.initial.chains) × (length l.ends ≡ length l.initial.ends)

abbrev pub decreases-loop-j : goal.decreases-loop-j
decreases-loop-j l = length l.lengths - l.j
