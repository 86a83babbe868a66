-- `unresolve_with::zero_notes` meets its contract.
use mathlib.Core.Path.{◌≡◌}
use Prim.Native.Nat.{◌-◌, ◌≤◌}
use lib.ListN.{length, take, replicate}
use Rattle.back_notes.specs.Note.{no_note}
use Rattle.unresolve_with.proofs.zero_notes.Given as goal

abbrev pub invariant-loop-i : goal.invariant-loop-i
invariant-loop-i l = (take l.i l.noted ≡ replicate l.i no_note) × (length l.noted ≡ length l.initial.noted) × (l.i ≤ length l.noted)

abbrev pub decreases-loop-i : goal.decreases-loop-i
decreases-loop-i l = length l.initial.noted - l.i
