-- `write::alias::write_aliases` meets its contract.
use mathlib.Core.Path.{◌≡◌}
use Prim.Native.Nat.{◌-◌}
use lib.ListN.{length}
use Rattle.write.specs.Alias.{write_aliases_t}
use Rattle.write.proofs.alias.write_aliases.Given as goal

abbrev pub invariant-loop-i : goal.invariant-loop-i
invariant-loop-i l = (write_aliases_t l.field l.names l.here l.out l.cur l.s.at l.i (l.n - l.i) ≡ write_aliases_t l.field l.names l.here l.initial.out l.s l.s.at 1 (l.n - 1)) × (length l.out ≡ length l.initial.out)

abbrev pub decreases-loop-i : goal.decreases-loop-i
decreases-loop-i l = l.n - l.i
