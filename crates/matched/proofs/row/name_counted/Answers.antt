-- `matched::row::name_counted` meets its contract.
use Rattle.matched.proofs.Rows.{counts}
use Rattle.matched.proofs.row.name_counted.Goals as goal

pub returns-then-n-gt-LAST_NAME : goal.returns-then-n-gt-LAST_NAME
returns-then-n-gt-LAST_NAME c = search counts

pub returns-else-n-gt-LAST_NAME : goal.returns-else-n-gt-LAST_NAME
returns-else-n-gt-LAST_NAME c = search counts

pub returns-else-choice-eq1 : goal.returns-else-choice-eq1
returns-else-choice-eq1 c = search counts
