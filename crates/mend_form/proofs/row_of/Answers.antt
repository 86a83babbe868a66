-- `mend_form::row_of` meets its contract.
use Rattle.mend_form.proofs.Laws.{of_ways}
use Rattle.mend_form.proofs.row_of.Goals as goal

pub returns-then-i-kept : goal.returns-then-i-kept
returns-then-i-kept c = search of_ways

pub returns-else-i-kept : goal.returns-else-i-kept
returns-else-i-kept c = search of_ways

pub returns-then-rows-i : goal.returns-then-rows-i
returns-then-rows-i c = search of_ways

pub returns : goal.returns
returns c = search of_ways
