-- `mend_list::list_rest` meets its contract.
use Rattle.mend_list.proofs.Laws.{rest_ways}
use Rattle.mend_list.proofs.list_rest.Goals as goal

pub returns-then-n-m : goal.returns-then-n-m
returns-then-n-m c = search rest_ways

pub returns : goal.returns
returns c = search rest_ways
