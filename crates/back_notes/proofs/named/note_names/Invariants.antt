-- `back_notes::named::note_names` meets its contract.
use mathlib.Core.Path.{◌≡◌}
use Prim.Native.Nat.{◌-◌}
use lib.ListN.{length, take}
use Rattle.back_notes.specs.Names.{naming_t, named_from}
use Rattle.back_notes.proofs.named.note_names.Given as goal

abbrev pub invariant-loop-i : goal.invariant-loop-i
invariant-loop-i l = (naming_t (take l.used l.table) l.rows l.noted l.i (l.n - l.i) ≡ named_from (take l.used l.table) l.rows l.initial.noted) × (length l.noted ≡ length l.initial.noted)
