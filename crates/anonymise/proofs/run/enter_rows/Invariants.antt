-- `anonymise::run::enter_rows` meets its contract.
use mathlib.Core.Path.{◌≡◌}
use Prim.Native.Nat.{◌-◌, ◌*◌, ◌≤◌}
use lib.ListN.{length}
use Rattle.renaming.specs.Renaming.{firsts}
use Rattle.anonymise.specs.Seen.{seen_in, Knows}
use Rattle.anonymise.specs.Renamed.{key_of}
use Rattle.anonymise.proofs.Rows.{names_from}
use Rattle.anonymise.proofs.run.enter_rows.Given as goal

abbrev pub invariant-loop-i : goal.invariant-loop-i
invariant-loop-i l = Knows l.table l.index l.used × (firsts (seen_in l.table l.used) (names_from l.rows l.i (l.n - l.i)) ≡ key_of l.rows) × (l.used ≤ 2 * l.i) × (length l.table ≡ length l.initial.table) × (length l.index ≡ length l.initial.index)
