-- `form_bytes::begins_as` meets its contract.
use borrow.Author.Rules.{rules}
use Rattle.form_bytes.proofs.BeginsLaws.{begins_is}
use Rattle.form_bytes.proofs.begins_as.Goals as goal

pub returns : goal.returns
returns c = search (begins_is, rules)
