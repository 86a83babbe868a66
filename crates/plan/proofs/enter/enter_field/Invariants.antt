-- `plan::enter::enter_field` meets its contract.
use Rattle.std.proofs.Common.{◌≡◌, ◌-◌, ◌/◌, length}
use Rattle.index.specs.Indexed.{Holds}
use Rattle.plan.specs.Enter.{enter_field_t}
use Rattle.plan.proofs.enter.enter_field.Given as goal

abbrev pub invariant-loop-i : goal.invariant-loop-i
invariant-loop-i l = (enter_field_t l.field l.at l.i (l.n - l.i) l.entered l.count ≡ enter_field_t l.field l.at 1 (length l.field / 16 - 1) l.initial.entered l.used) × Holds l.entered l.chains l.count × (length l.entered ≡ length l.initial.entered) × (length l.chains ≡ length l.initial.chains)

abbrev pub decreases-loop-i : goal.decreases-loop-i
decreases-loop-i l = l.n - l.i
