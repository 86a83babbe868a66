-- `mend::run::read_of` meets its contract.
use Rattle.mend.proofs.Ways.{read_is}
use borrow.Author.Rules.{rules}
use Rattle.mend.proofs.run.read_of.Goals as goal

pub returns : goal.returns
returns c = search (read_is, rules)
