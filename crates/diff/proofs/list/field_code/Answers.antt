-- `diff::list::field_code` meets its contract.
use borrow.Author.Rules.{rules}
use Rattle.diff.proofs.Ways.{code_is}
use Rattle.diff.proofs.list.field_code.Goals as goal

pub returns : goal.returns
returns c = search (code_is, rules)
