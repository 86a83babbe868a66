-- `read_row::with_operands` meets its contract.
use Rattle.read_row.proofs.Steps.{first_wanted_lem, still_wanted}
use borrow.Author.Rules.{rules}
use Rattle.read_row.proofs.with_operands.Goals as goal

pub returns-then-f-eq0 : goal.returns-then-f-eq0
returns-then-f-eq0 c = search (first_wanted_lem, still_wanted, rules)

pub returns : goal.returns
returns c = search (first_wanted_lem, still_wanted, rules)
