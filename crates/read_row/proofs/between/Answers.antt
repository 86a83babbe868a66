-- `read_row::between` meets its contract.
use Rattle.read_row.proofs.Steps.{made_between}
use borrow.Author.Rules.{rules}
use Rattle.read_row.proofs.between.Goals as goal

pub returns : goal.returns
returns c = search (made_between, rules)
