-- `back_rows::restore::restore_path` meets its contract.
use Rattle.std.proofs.Common.{◌≡◌, ◌-◌, length}
use Rattle.back_rows.specs.Below.{below}
use Rattle.back_rows.specs.Restore.{path_t}
use Rattle.back_rows.proofs.restore.restore_path.Given as goal

abbrev pub invariant-loop : goal.invariant-loop
invariant-loop l = (path_t (l.last.start - l.counter) l.last l.first (below l.rows l.noted l.first.start) l.count l.at l.out ≡ path_t l.last.start l.last l.last (below l.rows l.noted l.last.start) 1 l.to l.initial.out) × (length l.out ≡ length l.initial.out)
