-- `claim_numbers::enter::enter_all` meets its contract.
use mathlib.Core.Path.{◌≡◌}
use mathlib.Core.Bool.{false}
use mathlib.Core.List.{[]}
use lib.ListN.{length}
use Rattle.index.specs.Indexed.{Holds}
use Rattle.claim_rows.specs.Left.{rows_at}
use Rattle.claim_numbers.specs.Enter.{entries_t}
use Rattle.claim_numbers.proofs.Ways.{Goes}
use Rattle.claim_numbers.proofs.enter.enter_all.Given as goal

abbrev pub invariant-loop-i : goal.invariant-loop-i
invariant-loop-i l = Goes l.claim l.initial.table l.table l.scopes l.counts l.c l.i (entries_t (length l.initial.table) 0 false [] [] [] (rows_at l.claim 0)) × Holds l.table l.index l.c.used × (length l.table ≡ length l.initial.table) × (length l.index ≡ length l.initial.index)
