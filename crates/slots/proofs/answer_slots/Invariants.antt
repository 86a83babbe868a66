-- `slots::answer_slots` meets its contract. The invariant: with the answers to the slots that are left it is the whole answer.
use mathlib.Core.Path.{◌≡◌}
use mathlib.Core.List.{map}
use Prim.Native.Nat.{◌*◌, ◌-◌, ◌≤◌}
use lib.ListN.{length, drop}
use Rattle.binding.specs.Sheet.{slots_of}
use Rattle.slots.specs.Slots.{answer_to, noted, answered}
use Rattle.slots.proofs.answer_slots.Given as goal

abbrev pub invariant-loop-n : goal.invariant-loop-n
invariant-loop-n l = (noted l.n l.failing l.answers (map (answer_to l.form) (slots_of (l.count - l.n) (drop (12 * l.n) l.sheet))) ≡ answered l.form l.sheet l.initial.answers) × (length l.answers ≡ length l.initial.answers) × (l.failing ≤ l.n) × (l.n ≤ l.count)
