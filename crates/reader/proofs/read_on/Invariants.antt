-- `reader::read_on` meets its contract. The invariant: what the rows from here on come to is what they come to from the start.
use mathlib.Core.Path.{◌≡◌}
use Prim.Native.Nat.{◌-◌, ◌/◌}
use lib.ListN.{length}
use Rattle.kit.specs.Out.{◌&◌}
use Rattle.limits.specs.Held.{rules_of}
use Rattle.read_row.specs.Machine.{outcome_of}
use Rattle.reader.specs.Machine.{read_on_t}
use Rattle.reader.proofs.read_on.Given as goal

abbrev pub invariant-loop-s : goal.invariant-loop-s
invariant-loop-s l = (read_on_t (rules_of l.rules) l.top l.rows l.i (l.n - l.i) (outcome_of l.s & l.kinds) ≡ read_on_t (rules_of l.rules) l.top l.rows l.initial.i (length l.rows / 16 - l.initial.i) (outcome_of l.initial.s & l.initial.kinds)) × (length l.kinds ≡ length l.initial.kinds)

abbrev pub decreases-loop-s : goal.decreases-loop-s
decreases-loop-s l = l.n - l.i
