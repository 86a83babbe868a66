-- `mend::place::put_rows` meets its contract. The invariant: what is still to be put makes the whole, and the old rows from here on are still there.
use mathlib.Core.Path.{◌≡◌}
use Prim.Native.Nat.{◌*◌, ◌-◌}
use lib.ListN.{length, drop}
use lib.Seq.{sets}
use Rattle.mend_form.specs.Filled.{mended_body_t, from_t}
use Rattle.mend.proofs.place.put_rows.Given as goal

abbrev pub invariant-loop-i : goal.invariant-loop-i
invariant-loop-i l = (sets l.rows (16 * l.i) (from_t l.initial.rows l.kept l.i (l.count - l.i)) ≡ sets l.initial.rows 0 (mended_body_t l.initial.rows l.kept)) × (length l.rows ≡ length l.initial.rows) × (drop (16 * l.i) l.rows ≡ drop (16 * l.i) l.initial.rows)
