-- `prelude_root::enter_root` meets its contract.
use mathlib.Core.Path.{◌≡◌}
use Prim.Native.Nat.{◌-◌, ◌≤◌}
use lib.ListN.{length}
use Rattle.index.specs.Indexed.{Holds}
use Rattle.claim_rows.specs.Left.{rows_at}
use Rattle.prelude_root.specs.Root.{root_rows_t, root_t}
use Rattle.prelude_root.proofs.enter_root.Given as goal

abbrev pub invariant-loop-i : goal.invariant-loop-i
invariant-loop-i l = (root_rows_t l.i l.names l.counts l.c (rows_at l.rows l.i) ≡ root_t l.initial.names (rows_at l.rows 0)) × Holds l.names l.chains l.c.used × (l.c.depth ≤ l.i) × (length l.counts ≡ 1) × (length l.names ≡ length l.initial.names) × (length l.chains ≡ length l.initial.chains)

abbrev pub decreases-loop-i : goal.decreases-loop-i
decreases-loop-i l = l.n - l.i
