-- `read_row::is_settled` meets its contract.
use Rattle.read_row.proofs.Steps.{settled_exported, settled_not, settled_here}
use borrow.Author.Rules.{rules}
use Rattle.read_row.proofs.is_settled.Goals as goal

pub returns-then-s-eq-EXPORTED : goal.returns-then-s-eq-EXPORTED
returns-then-s-eq-EXPORTED c = search (settled_exported, settled_not, settled_here, rules)

pub returns-then-exports : goal.returns-then-exports
returns-then-exports c = search (settled_exported, settled_not, settled_here, rules)

pub returns : goal.returns
returns c = search (settled_exported, settled_not, settled_here, rules)
