-- `read_row::too_deep` meets its contract.
use Rattle.read_row.proofs.Steps.{made_deep}
use borrow.Author.Rules.{rules}
use Rattle.read_row.proofs.too_deep.Goals as goal

pub returns : goal.returns
returns c = search (made_deep, rules)
