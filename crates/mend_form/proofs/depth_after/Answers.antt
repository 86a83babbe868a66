-- `mend_form::depth_after` meets its contract.
use Rattle.mend_form.proofs.Laws.{depth_ways}
use Rattle.mend_form.proofs.depth_after.Goals as goal

pub returns-then-code-eq-OPEN : goal.returns-then-code-eq-OPEN
returns-then-code-eq-OPEN c = search depth_ways

pub returns-then-depth-eq0 : goal.returns-then-depth-eq0
returns-then-depth-eq0 c = search depth_ways

pub returns-then-code-eq-CLOSE : goal.returns-then-code-eq-CLOSE
returns-then-code-eq-CLOSE c = search depth_ways

pub returns : goal.returns
returns c = search depth_ways
