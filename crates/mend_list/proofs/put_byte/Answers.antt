-- `mend_list::put_byte` meets its contract.
use Rattle.mend_list.proofs.Laws.{put_ways}
use Rattle.mend_list.proofs.put_byte.Goals as goal

pub returns-then-list-i : goal.returns-then-list-i
returns-then-list-i c = search put_ways
