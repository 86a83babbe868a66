-- `claim_operands::paths::through_paths` meets its contract.
use lib.ListN.{take}
use Rattle.claim_rows.specs.Left.{rows_at}
use Rattle.claim_operands.specs.Paths.{through_paths_t}
use Rattle.claim_operands.proofs.Ways.{Follows}
use Rattle.claim_operands.proofs.paths.through_paths.Given as goal

abbrev pub invariant-loop-left : goal.invariant-loop-left
invariant-loop-left l = Follows l.table l.index l.claim l.input l.first l.initial.s.used l.left l.s (through_paths_t (take l.initial.s.used l.table) l.claim (rows_at l.input l.first) l.count l.initial.s)
