-- `text::numbers::digits_from` meets its contract. The invariant: the digits from here on make of the number so far what all of them make.
use mathlib.Core.Path.{◌≡◌}
use Prim.Native.Nat.{◌-◌, ◌≤◌}
use lib.ListN.{length, drop}
use Rattle.text.specs.Numbers.{digits_from}
use Rattle.text.proofs.numbers.digits_from.Given as goal

abbrev pub invariant-loop-end : goal.invariant-loop-end
invariant-loop-end l = (digits_from (drop l.end l.line) l.value ≡ digits_from (drop l.from l.line) 0) × (l.value ≤ 4294967296)

abbrev pub decreases-loop-end : goal.decreases-loop-end
decreases-loop-end l = length l.line - l.end
