-- `mark::enter_scope` meets its contract.
use Rattle.std.proofs.Common.{◌≡◌, ◌-◌, ◌/◌, length}
use Rattle.index.specs.Indexed.{Holds}
use Rattle.mark.specs.Visits.{place_at, visits_t}
use Rattle.mark.specs.MarkedRows.{enter_all}
use Rattle.mark.proofs.enter_scope.Given as goal

abbrev pub invariant-loop : goal.invariant-loop
invariant-loop l = (enter_all (visits_t l.rows l.ends (l.count - l.counter) l.at) l.table l.used ≡ enter_all (visits_t l.rows l.ends (length l.rows / 16) (place_at l.first)) l.initial.table 0)
    × Holds l.table l.index l.used × (length l.table ≡ length l.initial.table) × (length l.index ≡ length l.initial.index)
