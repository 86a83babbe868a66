-- `read_row::fault` meets its contract.
use Rattle.read_row.proofs.Steps.{made_wrong}
use borrow.Author.Rules.{rules}
use Rattle.read_row.proofs.fault.Goals as goal

pub returns : goal.returns
returns c = search (made_wrong, rules)
