-- `matched::fields::code_at` meets its contract.
use borrow.Author.Rules.{rules}
use Rattle.matched.proofs.Ways.{code_is}
use Rattle.matched.proofs.fields.code_at.Goals as goal

pub returns : goal.returns
returns c = search (code_is, rules)
