-- `diff::list::put_field` meets its contract.
use borrow.Author.Rules.{rules}
use Rattle.diff.proofs.Ways.{field_put, field_long}
use Rattle.diff.proofs.list.put_field.Goals as goal

pub returns : goal.returns
returns c = (search (field_put, rules), search (field_long, rules))
