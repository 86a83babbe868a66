-- `back_notes::named::enter_names` meets its contract.
use Rattle.back_notes.proofs.Ways.{Enters}
use mathlib.Core.Path.{◌≡◌}
use mathlib.Core.List.{[]}
use lib.ListN.{length}
use Rattle.index.specs.Indexed.{Holds}
use Rattle.back_notes.specs.Note.{noted_at}
use Rattle.back_notes.specs.Names.{slots_t}
use Rattle.back_notes.proofs.named.enter_names.Given as goal

abbrev pub invariant-loop-i : goal.invariant-loop-i
invariant-loop-i l = Enters l.rows l.noted l.initial.table l.table l.used l.i (slots_t (length l.initial.table) [] (noted_at l.rows l.noted 0)) × Holds l.table l.index l.used × (length l.table ≡ length l.initial.table) × (length l.index ≡ length l.initial.index)
