-- `matched::row::place_counted` meets its contract.
use Rattle.matched.proofs.Rows.{counts}
use Rattle.matched.proofs.row.place_counted.Goals as goal

pub returns-then-choice-eq1 : goal.returns-then-choice-eq1
returns-then-choice-eq1 c = search counts

pub returns-else-choice-eq1 : goal.returns-else-choice-eq1
returns-else-choice-eq1 c = search counts
