-- `mend_list::list_row` meets its contract.
use Rattle.mend_list.proofs.Laws.{row_ways}
use Rattle.mend_list.proofs.list_row.Goals as goal

pub loop-j-init : goal.loop-j-init
loop-j-init c = search row_ways

pub loop-j-preserved : goal.loop-j-preserved
loop-j-preserved c = search row_ways

pub returns : goal.returns
returns c = search row_ways
