-- `mark::mark_scopes` meets its contract.
use Rattle.std.proofs.Common.{◌≡◌, ◌-◌, ◌/◌, length}
use Rattle.index.specs.Indexed.{Holds}
use Rattle.mark.specs.MarkedRows.{scopes_t}
use Rattle.mark.proofs.mark_scopes.Given as goal

abbrev pub invariant-loop-i : goal.invariant-loop-i
invariant-loop-i l = (scopes_t l.rows l.ends l.i (l.count - l.i) l.fresh l.table l.marked ≡ scopes_t l.rows l.ends 0 (length l.rows / 16) 2147483648 l.initial.table l.initial.marked)
    × Holds l.table l.index 0 × (length l.marked ≡ length l.initial.marked) × (length l.table ≡ length l.initial.table) × (length l.index ≡ length l.initial.index)
