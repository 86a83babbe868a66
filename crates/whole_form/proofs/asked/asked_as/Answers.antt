-- `whole_form::asked::asked_as` meets its contract. The invariant: what is asked for from here on is what is asked for.
use Rattle.whole_form.proofs.Ways.{asked_ways}
use Rattle.whole_form.proofs.asked.asked_as.Goals as goal

pub loop-next-init : goal.loop-next-init
loop-next-init c = search asked_ways

pub returns-in-Ok : goal.returns-in-Ok
returns-in-Ok c = search asked_ways

pub returns-in-Err-Count : goal.returns-in-Err-Count
returns-in-Err-Count c = search asked_ways

pub loop-next-preserved : goal.loop-next-preserved
loop-next-preserved c = search asked_ways

pub returns : goal.returns
returns c = search asked_ways
