-- `plan::insertions::plan_paths` meets its contract.
use Rattle.std.proofs.Common.{◌≡◌, ◌-◌, length}
use Rattle.plan.specs.Serves.{Grown}
use Rattle.plan.specs.Insertions.{plan_paths_t}
use Rattle.plan.proofs.insertions.plan_paths.Given as goal

abbrev pub invariant-loop-left : goal.invariant-loop-left
invariant-loop-left l = (plan_paths_t l.names l.counts l.p l.space l.row (l.left - 1) ≡ plan_paths_t l.initial.names l.initial.counts l.initial.p l.space l.row (l.paths - 1)) × Grown l.initial.p l.p l.names l.chains × (length l.names ≡ length l.initial.names) × (length l.chains ≡ length l.initial.chains) × (length l.counts ≡ length l.initial.counts)

abbrev pub decreases-loop-left : goal.decreases-loop-left
decreases-loop-left l = l.left
