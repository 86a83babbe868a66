-- `plan::enter::enter_fields` meets its contract.
use Rattle.std.proofs.Common.{◌≡◌, ◌/◌, length}
use Rattle.index.specs.Indexed.{Holds}
use Rattle.plan.specs.Enter.{enter_fields_t}
use Rattle.plan.proofs.enter.enter_fields.Given as goal

abbrev pub invariant-loop-turns : goal.invariant-loop-turns
invariant-loop-turns l = (enter_fields_t l.rows l.ends l.entered l.next l.count l.turns ≡ enter_fields_t l.rows l.ends l.initial.entered l.at 0 (length l.rows / 16)) × Holds l.entered l.chains l.count × (length l.entered ≡ length l.initial.entered) × (length l.chains ≡ length l.initial.chains)

abbrev pub decreases-loop-turns : goal.decreases-loop-turns
decreases-loop-turns l = l.turns
