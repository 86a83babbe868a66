-- `form::ends::depth_before` meets its contract.
use Rattle.kit.proofs.Laws.{picks}
use Rattle.form.specs.MarkEnds.{depth_before}
use Rattle.form.proofs.ends.depth_before.Goals as goal

pub returns-then-most-depth : goal.returns-then-most-depth
unfolding depth_before
returns-then-most-depth c = search picks

pub returns-then-code-eq-CLOSE : goal.returns-then-code-eq-CLOSE
unfolding depth_before
returns-then-code-eq-CLOSE c = search picks

pub returns-then-depth-eq0 : goal.returns-then-depth-eq0
unfolding depth_before
returns-then-depth-eq0 c = search picks

pub returns-then-code-eq-OPEN : goal.returns-then-code-eq-OPEN
unfolding depth_before
returns-then-code-eq-OPEN c = search picks

pub returns : goal.returns
unfolding depth_before
returns c = search picks
