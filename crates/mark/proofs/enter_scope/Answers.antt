-- `mark::enter_scope` meets its contract.
use Rattle.mark.proofs.Ways.{enter_ways}
use Rattle.mark.proofs.enter_scope.Goals as goal

pub loop-init : goal.loop-init
loop-init c = search enter_ways

pub returns-then-p-eq-CLOSE : goal.returns-then-p-eq-CLOSE
returns-then-p-eq-CLOSE c = search enter_ways

pub loop-preserved : goal.loop-preserved
loop-preserved c = search enter_ways

pub returns : goal.returns
returns c = search enter_ways
