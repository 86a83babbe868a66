-- `matched::fields::one_more` meets its contract.
use borrow.Author.Rules.{rules}
use Rattle.matched.proofs.Ways.{none_more, more_there}
use Rattle.matched.proofs.fields.one_more.Goals as goal

pub returns-then-n-from : goal.returns-then-n-from
returns-then-n-from c = search (none_more, rules)

pub returns : goal.returns
returns c = search (more_there, rules)
