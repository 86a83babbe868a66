-- `anonymise::run::write_rows` meets its contract.
use mathlib.Core.Path.{◌≡◌}
use Prim.Native.Nat.{◌-◌, ◌/◌}
use lib.ListN.{length}
use Rattle.anonymise.specs.Seen.{seen_in}
use Rattle.anonymise.specs.Renamed.{rows_written}
use Rattle.anonymise.proofs.run.write_rows.Given as goal

abbrev pub invariant-loop-i : goal.invariant-loop-i
invariant-loop-i l = (rows_written (seen_in l.table l.used) l.rows l.i (l.n - l.i) l.out ≡ rows_written (seen_in l.table l.used) l.rows 0 (length l.rows / 16) l.initial.out) × (length l.out ≡ length l.initial.out)
