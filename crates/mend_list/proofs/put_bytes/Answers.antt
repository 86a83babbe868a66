-- `mend_list::put_bytes` meets its contract.
use Rattle.mend_list.proofs.Laws.{put_ways}
use Rattle.mend_list.proofs.put_bytes.Goals as goal

pub loop-k-init : goal.loop-k-init
loop-k-init c = search put_ways

pub loop-k-preserved : goal.loop-k-preserved
loop-k-preserved c = search put_ways

pub returns : goal.returns
returns c = search put_ways
