-- `mend_read::read_rows` meets its contract. The invariant: what the rows from here on come to is what they come to from the start.
use mathlib.Core.Path.{◌≡◌}
use Prim.Native.Nat.{◌-◌}
use lib.ListN.{length}
use Rattle.kit.specs.Out.{◌&◌}
use Rattle.limits.specs.Held.{rules_of}
use Rattle.read_row.specs.Machine.{outcome_of}
use Rattle.reader.specs.Machine.{read_on_t}
use Rattle.mend_form.specs.Filled.{mended_body_t}
use Rattle.mend_read.proofs.read_rows.Given as goal

abbrev pub invariant-loop-s : goal.invariant-loop-s
invariant-loop-s l = (read_on_t (rules_of l.limits.rules) l.limits.names (mended_body_t l.rows l.kept) l.i (l.n - l.i) (outcome_of l.s & l.kinds) ≡ read_on_t (rules_of l.limits.rules) l.limits.names (mended_body_t l.rows l.kept) 1 (l.n - 1) (outcome_of l.initial.s & l.initial.kinds))
    × (length l.kinds ≡ length l.initial.kinds)

abbrev pub decreases-loop-s : goal.decreases-loop-s
decreases-loop-s l = l.n - l.i
