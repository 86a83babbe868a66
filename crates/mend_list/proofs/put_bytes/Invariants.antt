-- `mend_list::put_bytes` meets its contract.
use mathlib.Core.Path.{◌≡◌}
use Prim.Native.Nat.{◌+◌, ◌-◌}
use lib.ListN.{length, take, drop}
use lib.Seq.{sets}
use Rattle.mend_list.proofs.put_bytes.Given as goal

abbrev pub invariant-loop-k : goal.invariant-loop-k
invariant-loop-k l = (sets l.list (l.to + l.k) (take (l.n - l.k) (drop (l.from + l.k) l.old)) ≡ sets l.initial.list l.to (take l.n (drop l.from l.old))) × (length l.list ≡ length l.initial.list)
