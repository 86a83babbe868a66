-- `mend_list::width` meets its contract.
use Rattle.mend_list.proofs.Laws.{width_ways}
use Rattle.mend_list.proofs.width.Goals as goal

pub returns-in-0 : goal.returns-in-0
returns-in-0 c = search width_ways

pub returns-in-1 : goal.returns-in-1
returns-in-1 c = search width_ways

pub returns-in-2 : goal.returns-in-2
returns-in-2 c = search width_ways

pub returns-in-4 : goal.returns-in-4
returns-in-4 c = search width_ways

pub returns-in-8 : goal.returns-in-8
returns-in-8 c = search width_ways

pub returns-in-12 : goal.returns-in-12
returns-in-12 c = search width_ways

pub returns-in_default : goal.returns-in_default
returns-in_default c = search width_ways
