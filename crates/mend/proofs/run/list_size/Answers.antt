-- `mend::run::list_size` meets its contract.
use Rattle.mend.proofs.Ways.{size_is}
use borrow.Author.Rules.{rules}
use Rattle.mend.proofs.run.list_size.Goals as goal

pub returns : goal.returns
returns c = search (size_is, rules)
