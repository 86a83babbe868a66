-- `mend_list::list_rows` meets its contract.
use Rattle.mend_list.proofs.Laws.{rows_ways}
use Rattle.mend_list.proofs.list_rows.Goals as goal

pub loop-i-init : goal.loop-i-init
loop-i-init c = search rows_ways

pub loop-i-preserved : goal.loop-i-preserved
loop-i-preserved c = search rows_ways

pub returns : goal.returns
returns c = search rows_ways
