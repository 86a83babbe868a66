-- `form::ends::mark_rows` meets its contract.
use mathlib.Core.Path.{◌≡◌}
use Prim.Native.Nat.{◌/◌}
use lib.ListN.{length}
use Rattle.form.specs.MarkEnds.{ends_back_t}
use Rattle.form.proofs.ends.mark_rows.Given as goal

abbrev pub invariant-loop-i : goal.invariant-loop-i
invariant-loop-i l = (ends_back_t l.most l.rows l.i l.depth l.ends l.bounds ≡ ends_back_t l.most l.rows (length l.rows / 16) 0 l.initial.ends l.initial.bounds) × (length l.ends ≡ length l.initial.ends) × (length l.bounds ≡ length l.initial.bounds)

abbrev pub decreases-loop-i : goal.decreases-loop-i
decreases-loop-i l = l.i
