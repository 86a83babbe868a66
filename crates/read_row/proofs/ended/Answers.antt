-- `read_row::ended` meets its contract.
use Rattle.read_row.proofs.Steps.{made_whole}
use borrow.Author.Rules.{rules}
use Rattle.read_row.proofs.ended.Goals as goal

pub returns : goal.returns
returns c = search (made_whole, rules)
