-- `matched::row::number_counted` meets its contract.
use borrow.Author.Rules.{rules}
use Rattle.matched.proofs.Rows.{number_name, number_itself}
use Rattle.matched.proofs.row.number_counted.Goals as goal

pub returns-then-named : goal.returns-then-named
returns-then-named c = search (number_name, rules)

pub returns-else-named : goal.returns-else-named
returns-else-named c = search (number_itself, rules)
