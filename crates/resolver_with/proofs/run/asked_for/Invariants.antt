-- `resolver_with::run::asked_for` meets its contract.
use mathlib.Core.Path.{◌≡◌}
use Prim.Native.Nat.{◌-◌, ◌≤◌}
use lib.ListN.{drop}
use Rattle.rules.specs.Versions.{all}
use Rattle.resolver_with.specs.Asked.{asked_in, asked}
use Rattle.resolver_with.proofs.run.asked_for.Given as goal

abbrev pub invariant-loop-next : goal.invariant-loop-next
invariant-loop-next l = (asked_in (drop l.next all) l.form ≡ asked l.form) × (l.next ≤ 3)

abbrev pub decreases-loop-next : goal.decreases-loop-next
decreases-loop-next l = 3 - l.next
