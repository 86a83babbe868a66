-- `moved_list::behind_next` meets its contract. The invariant: from here it answers what it does from the start.
use mathlib.Core.Path.{◌≡◌}
use Prim.Native.Nat.{◌-◌}
use Rattle.moved_list.specs.Listing.{behind_from, behind_next}
use Rattle.moved_list.proofs.behind_next.Given as goal

abbrev pub invariant-loop-row : goal.invariant-loop-row
invariant-loop-row l = behind_from l.out l.row (l.rows - l.row) ≡ behind_next l.out l.from
