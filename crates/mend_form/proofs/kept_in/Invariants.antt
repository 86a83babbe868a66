-- `mend_form::kept_in` meets its contract.
use mathlib.Core.Path.{◌≡◌}
use Prim.Native.Nat.{◌-◌, ◌/◌, ◌≤◌}
use lib.ListN.{length}
use Rattle.mend_form.specs.Kept.{kept_t, kept_in}
use Rattle.mend_form.proofs.kept_in.Given as goal

abbrev pub invariant-loop-i : goal.invariant-loop-i
invariant-loop-i l = (kept_t l.rows l.i (l.n - l.i) l.depth ≡ kept_in l.rows) × (l.depth ≤ l.i) × (l.n ≡ length l.rows / 16)
