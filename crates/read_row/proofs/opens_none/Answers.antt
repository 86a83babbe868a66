-- `read_row::opens_none` meets its contract.
use Rattle.read_row.proofs.Steps.{opens_nothing}
use borrow.Author.Rules.{rules}
use Rattle.read_row.proofs.opens_none.Goals as goal

pub returns : goal.returns
returns c = search (opens_nothing, rules)
