-- `inside::run::name_of` meets its contract.
use Rattle.inside.proofs.Ways.{name_is}
use borrow.Author.Rules.{rules}
use Rattle.inside.proofs.run.name_of.Goals as goal

pub returns : goal.returns
returns c = search (name_is, rules)
