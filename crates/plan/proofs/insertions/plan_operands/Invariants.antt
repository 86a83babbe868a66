-- `plan::insertions::plan_operands` meets its contract.
use Rattle.std.proofs.Common.{◌≡◌, ◌-◌, ◌/◌, length}
use Rattle.plan.specs.Serves.{Grown}
use Rattle.plan.specs.Insertions.{plan_operands_t}
use Rattle.plan.proofs.insertions.plan_operands.Given as goal

abbrev pub invariant-loop-i : goal.invariant-loop-i
invariant-loop-i l = (plan_operands_t l.field l.entered l.names l.scopes l.counts l.p l.plan.at l.i (l.n - l.i) ≡ plan_operands_t l.field l.entered l.initial.names l.scopes l.initial.counts l.plan l.plan.at 1 (length l.field / 16 - 1)) × Grown l.plan l.p l.names l.chains × (length l.names ≡ length l.initial.names) × (length l.chains ≡ length l.initial.chains) × (length l.counts ≡ length l.initial.counts)

abbrev pub decreases-loop-i : goal.decreases-loop-i
decreases-loop-i l = l.n - l.i
