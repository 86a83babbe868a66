-- `write::own::write_rows` meets its contract.
use mathlib.Core.Path.{◌≡◌}
use Prim.Native.Nat.{◌-◌}
use lib.ListN.{length}
use Rattle.index.specs.Indexed.{Holds}
use Rattle.write.specs.Own.{own_t}
use Rattle.write.proofs.own.write_rows.Given as goal

abbrev pub invariant-loop-i : goal.invariant-loop-i
invariant-loop-i l = (own_t l.field l.entered l.names l.scopes l.out l.cur l.s.at l.i (l.n - l.i) ≡ own_t l.field l.initial.entered l.names l.scopes l.initial.out l.s l.s.at 0 l.n) × Holds l.entered l.known l.cur.seen × (length l.entered ≡ length l.initial.entered) × (length l.known ≡ length l.initial.known) × (length l.out ≡ length l.initial.out)

abbrev pub decreases-loop-i : goal.decreases-loop-i
decreases-loop-i l = l.n - l.i
