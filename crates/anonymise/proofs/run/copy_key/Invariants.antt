-- `anonymise::run::copy_key` meets its contract.
use mathlib.Core.Path.{◌≡◌}
use lib.ListN.{length, take}
use Rattle.renaming.specs.Anonymous.{over}
use Rattle.anonymise.specs.Seen.{seen_in}
use Rattle.anonymise.proofs.run.copy_key.Given as goal

abbrev pub invariant-loop-i : goal.invariant-loop-i
invariant-loop-i l = (l.key ≡ over (take l.i (seen_in l.table l.used)) l.initial.key) × (length l.key ≡ length l.initial.key)
