-- `mend_list::list_rows` meets its contract.
use mathlib.Core.Path.{◌≡◌}
use Prim.Native.Nat.{◌+◌, ◌*◌, ◌-◌, ◌≤◌}
use lib.ListN.{length}
use Rattle.mend_list.specs.Listed.{noted, rows_changes}
use Rattle.mend_list.proofs.list_rows.Given as goal

abbrev pub invariant-loop-i : goal.invariant-loop-i
invariant-loop-i l = (noted l.t l.list (rows_changes l.header l.old l.kept l.i (l.kept.rows - l.i)) ≡ noted l.initial.t l.initial.list (rows_changes l.header l.old l.kept 0 l.kept.rows)) × (length l.list ≡ length l.initial.list) × (l.t.size ≤ l.initial.t.size + 320 * l.i) × (l.t.count ≤ l.initial.t.count + 16 * l.i)
