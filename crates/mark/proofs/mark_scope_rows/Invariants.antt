-- `mark::mark_scope_rows` meets its contract.
use Rattle.std.proofs.Common.{◌≡◌, ◌-◌, ◌/◌, length}
use Rattle.mark.specs.Visits.{place_at, visits_t}
use Rattle.mark.specs.MarkedRows.{Serves, mark_all}
use Rattle.mark.proofs.mark_scope_rows.Given as goal

abbrev pub invariant-loop : goal.invariant-loop
invariant-loop l = (mark_all (visits_t l.rows l.ends (l.count - l.counter) l.at) l.m l.table l.marked ≡ mark_all (visits_t l.rows l.ends (length l.rows / 16) (place_at l.first)) l.initial.m l.initial.table l.initial.marked)
    × Serves l.m l.table l.index × (length l.marked ≡ length l.initial.marked) × (length l.table ≡ length l.initial.table) × (length l.index ≡ length l.initial.index)
