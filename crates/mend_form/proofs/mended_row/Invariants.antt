-- `mend_form::mended_row` meets its contract.
use mathlib.Core.Path.{◌≡◌}
use Prim.Native.Nat.{◌-◌}
use lib.ListN.{length}
use lib.Seq.{sets}
use Rattle.mend_form.specs.Filled.{mended_row_t}
use Rattle.mend_form.proofs.mended_row.Given as goal

abbrev pub invariant-loop-j : goal.invariant-loop-j
invariant-loop-j l = (sets l.row l.j (mended_row_t l.rows l.a l.j (16 - l.j)) ≡ sets l.initial.row 0 (mended_row_t l.rows l.a 0 16)) × (length l.row ≡ length l.initial.row)
