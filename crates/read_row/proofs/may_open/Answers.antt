-- `read_row::may_open` meets its contract.
use Rattle.read_row.proofs.Steps.{open_name_lem, open_settled, open_kind}
use borrow.Author.Rules.{rules}
use Rattle.read_row.proofs.may_open.Goals as goal

pub returns-then-name-s : goal.returns-then-name-s
returns-then-name-s c = search (open_name_lem, open_settled, open_kind, rules)

pub returns-then-opens_kind : goal.returns-then-opens_kind
returns-then-opens_kind c = search (open_name_lem, open_settled, open_kind, rules)

pub returns : goal.returns
returns c = search (open_name_lem, open_settled, open_kind, rules)
