-- `view::explain::explain_each` meets its contract. The invariant: the search from here on answers what the whole search does.
use mathlib.Core.Path.{◌≡◌}
use Prim.Native.Nat.{◌-◌}
use Rattle.view.specs.Shown.{there_from, any_there}
use Rattle.view.proofs.explain.explain_each.Given as goal

abbrev pub invariant-loop-row : goal.invariant-loop-row
invariant-loop-row l = there_from l.form l.place l.row (l.rows - l.row) l.is_found ≡ any_there l.form l.place

abbrev pub decreases-loop-row : goal.decreases-loop-row
decreases-loop-row l = l.rows - l.row
