-- `matched::row::counted` meets its contract.
use borrow.Author.Rules.{rules}
use Rattle.matched.proofs.Rows.{parts_counted}
use Rattle.matched.proofs.row.counted.Goals as goal

pub returns : goal.returns
returns c = search (parts_counted, rules)
