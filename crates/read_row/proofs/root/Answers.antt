-- `read_row::root` meets its contract.
use Rattle.read_row.proofs.Steps.{root_placed}
use borrow.Author.Rules.{rules}
use Rattle.read_row.proofs.root.Goals as goal

pub returns : goal.returns
returns c = search (root_placed, rules)
