-- `mark::copy_rows` meets its contract.
use Rattle.std.proofs.Common.{◌≡◌, ◌-◌, ◌/◌, length}
use Rattle.mark.specs.MarkedRows.{copies_t}
use Rattle.mark.proofs.copy_rows.Given as goal

abbrev pub invariant-loop-i : goal.invariant-loop-i
invariant-loop-i l = (copies_t l.rows l.i (l.count - l.i) l.marked ≡ copies_t l.rows 0 (length l.rows / 16) l.initial.marked) × (length l.marked ≡ length l.initial.marked)
