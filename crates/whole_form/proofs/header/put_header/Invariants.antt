-- `whole_form::header::put_header` meets its contract. The invariant: with what is left to write, the output is as it must be.
use mathlib.Core.Path.{◌≡◌}
use Prim.Native.Nat.{◌-◌}
use lib.ListN.{length, drop}
use lib.Seq.{sets}
use Rattle.rules.specs.Answer.{header_bytes}
use Rattle.limits.specs.Held.{setting_in}
use Rattle.whole_form.proofs.header.put_header.Given as goal

abbrev pub invariant-loop-i : goal.invariant-loop-i
invariant-loop-i l = (sets l.out l.i (drop l.i (header_bytes (setting_in l.limits) l.rows)) ≡ sets l.initial.out 0 (header_bytes (setting_in l.limits) l.rows)) × (length l.out ≡ length l.initial.out)

abbrev pub decreases-loop-i : goal.decreases-loop-i
decreases-loop-i l = l.size - l.i
