-- `do_show::digits::number_in` meets its contract. The invariant: the digits from here on make of the number so far what all of them make.
use mathlib.Core.Path.{◌≡◌}
use Prim.Native.Nat.{◌-◌}
use lib.ListN.{length, drop}
use Rattle.do_show.specs.Numbers.{with_digits, number_in}
use Rattle.do_show.proofs.digits.number_in.Given as goal

abbrev pub invariant-loop-i : goal.invariant-loop-i
invariant-loop-i l = with_digits (drop l.i l.text) l.number ≡ number_in l.text

abbrev pub decreases-loop-i : goal.decreases-loop-i
decreases-loop-i l = length l.text - l.i
