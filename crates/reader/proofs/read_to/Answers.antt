-- `reader::read_to` meets its contract: its twin, and `read_right` of `Storey`.
use Rattle.reader.proofs.Steps.{read_other, read_kind, read_none, read_root}
use borrow.Author.Rules.{rules}
use Rattle.reader.proofs.read_to.Goals as goal

pub returns-in_default : goal.returns-in_default
returns-in_default c = search (read_other, rules)

pub returns-then-kind-ne0 : goal.returns-then-kind-ne0
returns-then-kind-ne0 c = search (read_kind, rules)

pub returns-then-scopes-eq0 : goal.returns-then-scopes-eq0
returns-then-scopes-eq0 c = search (read_none, rules)

pub returns : goal.returns
returns c = search (read_root, rules)
