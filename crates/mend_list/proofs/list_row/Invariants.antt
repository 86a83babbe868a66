-- `mend_list::list_row` meets its contract.
use mathlib.Core.Path.{◌≡◌}
use Prim.Native.Nat.{◌+◌, ◌*◌, ◌-◌, ◌≤◌}
use lib.ListN.{length}
use Rattle.mend_list.specs.Listed.{noted, row_changes}
use Rattle.mend_list.proofs.list_row.Given as goal

abbrev pub invariant-loop-j : goal.invariant-loop-j
invariant-loop-j l = (noted l.t l.list (row_changes l.old l.new l.a l.j (16 - l.j)) ≡ noted l.initial.t l.initial.list (row_changes l.old l.new l.a 0 16)) × (length l.list ≡ length l.initial.list) × (l.t.size ≤ l.initial.t.size + 20 * l.j) × (l.t.count ≤ l.initial.t.count + l.j)
