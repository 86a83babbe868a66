-- `write::alias::write_chain` meets its contract.
use mathlib.Core.Path.{◌≡◌}
use Prim.Native.Nat.{◌-◌}
use lib.ListN.{length}
use Rattle.write.specs.Alias.{write_chain_t}
use Rattle.write.proofs.alias.write_chain.Given as goal

abbrev pub invariant-loop-c : goal.invariant-loop-c
invariant-loop-c l = (write_chain_t l.field l.k l.names l.out l.cur l.c l.c.left ≡ write_chain_t l.field l.i l.names l.initial.out l.initial.cur l.initial.c l.initial.c.left) × (length l.out ≡ length l.initial.out)

abbrev pub decreases-loop-c : goal.decreases-loop-c
decreases-loop-c l = l.n - l.k
