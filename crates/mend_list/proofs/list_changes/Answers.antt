-- `mend_list::list_changes` meets its contract.
use Rattle.mend_list.proofs.Laws.{in_ways}
use Rattle.mend_list.proofs.list_changes.Goals as goal

pub returns-then-header-behind_count : goal.returns-then-header-behind_count
returns-then-header-behind_count c = search in_ways

pub returns-then-header-gt16 : goal.returns-then-header-gt16
returns-then-header-gt16 c = search in_ways

pub returns-then-old-header : goal.returns-then-old-header
returns-then-old-header c = search in_ways

pub returns-then-kept-gt16383 : goal.returns-then-kept-gt16383
returns-then-kept-gt16383 c = search in_ways

pub returns : goal.returns
returns c = search in_ways
