-- `slots::all_named` meets its contract. The invariant: what the slots that are left say is what all say.
use mathlib.Core.Path.{◌≡◌}
use Prim.Native.Nat.{◌*◌, ◌-◌}
use lib.ListN.{drop}
use Rattle.binding.specs.Sheet.{slots_of, all_named, slots}
use Rattle.slots.proofs.all_named.Given as goal

abbrev pub invariant-loop-n : goal.invariant-loop-n
invariant-loop-n l = all_named (slots_of (l.count - l.n) (drop (12 * l.n) l.sheet)) ≡ all_named (slots l.sheet)
