-- `moved_list::put` meets its contract.
use Rattle.moved_list.proofs.Ways.{put_ways}
use Rattle.moved_list.proofs.put.Goals as goal

pub returns-in_default : goal.returns-in_default
returns-in_default c = search put_ways

pub returns-in-Moved : goal.returns-in-Moved
returns-in-Moved c = search put_ways

pub returns-in-Apart : goal.returns-in-Apart
returns-in-Apart c = search put_ways
