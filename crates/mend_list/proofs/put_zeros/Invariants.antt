-- `mend_list::put_zeros` meets its contract.
use mathlib.Core.Path.{◌≡◌}
use Prim.Native.Nat.{◌+◌, ◌-◌}
use lib.ListN.{length, replicate}
use lib.Seq.{sets}
use Rattle.mend_list.proofs.put_zeros.Given as goal

abbrev pub invariant-loop-k : goal.invariant-loop-k
invariant-loop-k l = (sets l.list (l.to + l.k) (replicate (l.n - l.k) 0) ≡ sets l.initial.list l.to (replicate l.n 0)) × (length l.list ≡ length l.initial.list)
