-- `plan::insertions::plan_fields` meets its contract.
use Rattle.std.proofs.Common.{◌≡◌, ◌/◌, length}
use Rattle.plan.specs.Serves.{Grown}
use Rattle.plan.specs.Insertions.{plan_fields_t}
use Rattle.plan.proofs.insertions.plan_fields.Given as goal

abbrev pub invariant-loop-turns : goal.invariant-loop-turns
invariant-loop-turns l = (plan_fields_t l.rows l.ends l.entered l.names l.scopes l.counts l.p l.turns ≡ plan_fields_t l.rows l.ends l.entered l.initial.names l.scopes l.initial.counts l.initial.p (length l.rows / 16)) × Grown l.initial.p l.p l.names l.chains × (length l.names ≡ length l.initial.names) × (length l.chains ≡ length l.initial.chains) × (length l.counts ≡ length l.initial.counts)

abbrev pub decreases-loop-turns : goal.decreases-loop-turns
decreases-loop-turns l = l.turns
