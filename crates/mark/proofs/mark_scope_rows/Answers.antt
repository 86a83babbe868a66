-- `mark::mark_scope_rows` meets its contract.
use Rattle.std.proofs.Common.{rules}
use Rattle.mark.proofs.Ways.{scope_ways, mark_turn}
use Rattle.mark.proofs.mark_scope_rows.Goals as goal

pub loop-init : goal.loop-init
loop-init c = search scope_ways

pub returns-then-p-eq-CLOSE : goal.returns-then-p-eq-CLOSE
returns-then-p-eq-CLOSE c = search scope_ways

pub loop-preserved : goal.loop-preserved
loop-preserved c = (search mark_turn, search rules, search rules, search rules, search rules)

pub returns : goal.returns
returns c = search scope_ways
