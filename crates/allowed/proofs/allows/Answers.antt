-- `allowed::allows` meets its contract.
use Rattle.allowed.proofs.Laws.{in_row, past_row, past_rows}
use borrow.Author.Rules.{rules}
use Rattle.allowed.proofs.allows.Goals as goal

pub returns-then-code-lt26 : goal.returns-then-code-lt26
returns-then-code-lt26 c = search (in_row, rules)

pub returns-else-code-lt26 : goal.returns-else-code-lt26
returns-else-code-lt26 c = search (past_row, past_rows, rules)

pub returns-else-kind-lt4 : goal.returns-else-kind-lt4
returns-else-kind-lt4 c = search (past_row, past_rows, rules)
