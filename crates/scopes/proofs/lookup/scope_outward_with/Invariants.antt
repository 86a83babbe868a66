-- `scopes::lookup::scope_outward_with` meets its contract.
use mathlib.Core.Path.{◌≡◌}
use Prim.Native.Nat.{◌+◌, ◌-◌, ◌≤◌}
use Rattle.scopes.specs.Scopes.{outward_from, scope_outward}
use Rattle.scopes.proofs.lookup.scope_outward_with.Given as goal

abbrev pub invariant-loop-around : goal.invariant-loop-around
invariant-loop-around l = (outward_from l.form l.wanted (l.scope - l.out) l.around l.out ≡ scope_outward l.form l.scope l.wanted) × (l.around + l.out ≤ l.scope)

abbrev pub decreases-loop-around : goal.decreases-loop-around
decreases-loop-around l = l.around
