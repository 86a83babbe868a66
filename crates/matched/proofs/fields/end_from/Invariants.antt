-- `matched::fields::end_from` meets its contract.
use mathlib.Core.Path.{◌≡◌}
use Prim.Native.Nat.{◌-◌, ◌/◌, ◌≤◌}
use lib.ListN.{length}
use Rattle.matched.specs.Alike.{end_t}
use Rattle.matched.proofs.fields.end_from.Given as goal

abbrev pub invariant-loop-j : goal.invariant-loop-j
invariant-loop-j l = (end_t l.rows l.j l.depth (l.n - l.j) ≡ end_t l.rows l.from 0 (length l.rows / 16 - l.from)) × (l.depth ≤ l.j)
