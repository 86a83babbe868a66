-- `read_row::may_end` meets its contract.
use Rattle.read_row.proofs.Steps.{end_between, end_settled, end_opens}
use borrow.Author.Rules.{rules}
use Rattle.read_row.proofs.may_end.Goals as goal

pub returns-then-s-gt-EXPORTED : goal.returns-then-s-gt-EXPORTED
returns-then-s-gt-EXPORTED c = search (end_between, end_settled, end_opens, rules)

pub returns-then-opens_none : goal.returns-then-opens_none
returns-then-opens_none c = search (end_between, end_settled, end_opens, rules)

pub returns : goal.returns
returns c = search (end_between, end_settled, end_opens, rules)
