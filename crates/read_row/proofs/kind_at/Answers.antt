-- `read_row::kind_at` meets its contract.
use Rattle.kit.proofs.Laws.{past}
use borrow.Author.Rules.{rules}
use Rattle.read_row.proofs.kind_at.Goals as goal

pub returns-else-depth-kinds : goal.returns-else-depth-kinds
returns-else-depth-kinds c = search (past, rules)
