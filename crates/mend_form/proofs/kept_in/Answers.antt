-- `mend_form::kept_in` meets its contract.
use Rattle.mend_form.proofs.Laws.{kept_ways}
use Rattle.mend_form.proofs.kept_in.Goals as goal

pub loop-i-init : goal.loop-i-init
loop-i-init c = search kept_ways

pub returns-then-closes_root : goal.returns-then-closes_root
returns-then-closes_root c = search kept_ways

pub loop-i-preserved : goal.loop-i-preserved
loop-i-preserved c = search kept_ways

pub returns : goal.returns
returns c = search kept_ways
