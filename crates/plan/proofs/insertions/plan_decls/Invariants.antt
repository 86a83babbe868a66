-- `plan::insertions::plan_decls` meets its contract.
use Rattle.std.proofs.Common.{◌≡◌, ◌-◌, ◌/◌, ◌≤◌, length}
use Rattle.index.specs.Indexed.{Holds}
use Rattle.plan.specs.Insertions.{plan_decls_t}
use Rattle.plan.proofs.insertions.plan_decls.Given as goal

abbrev pub invariant-loop-i : goal.invariant-loop-i
invariant-loop-i l = (plan_decls_t l.field l.names l.counts l.at l.count l.i (l.n - l.i) ≡ plan_decls_t l.field l.initial.names l.initial.counts l.at l.used 1 (length l.field / 16 - 1)) × Holds l.names l.chains l.count × (l.used ≤ l.count) × (length l.names ≡ length l.initial.names) × (length l.chains ≡ length l.initial.chains) × (length l.counts ≡ length l.initial.counts)

abbrev pub decreases-loop-i : goal.decreases-loop-i
decreases-loop-i l = l.n - l.i
