-- `read_row::opens_kind` meets its contract.
use Rattle.read_row.proofs.Steps.{other_kind, that_kind}
use borrow.Author.Rules.{rules}
use Rattle.read_row.proofs.opens_kind.Goals as goal

pub returns-in-None : goal.returns-in-None
returns-in-None c = search (other_kind, that_kind, rules)

pub returns-in-Some : goal.returns-in-Some
returns-in-Some c = search (other_kind, that_kind, rules)
