-- `claim_operands::run::try_operands` meets its contract.
use mathlib.Core.Bool.{false}
use mathlib.Core.List.{[]}
use lib.ListN.{take}
use Rattle.claim_rows.specs.Left.{rows_at}
use Rattle.claim_operands.specs.Operands.{try_operands_t}
use Rattle.claim_operands.proofs.Turns.{Goes}
use Rattle.claim_operands.proofs.run.try_operands.Given as goal

abbrev pub invariant-loop-i : goal.invariant-loop-i
invariant-loop-i l = Goes l.table l.index l.claim l.input l.used l.scopes l.c l.i (try_operands_t (take l.used l.table) l.claim l.used 0 false [] (rows_at l.claim 0) (rows_at l.input 0))
