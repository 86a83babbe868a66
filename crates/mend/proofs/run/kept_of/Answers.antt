-- `mend::run::kept_of` meets its contract.
use Rattle.mend.proofs.Ways.{kept_is}
use borrow.Author.Rules.{rules}
use Rattle.mend.proofs.run.kept_of.Goals as goal

pub returns : goal.returns
returns c = search (kept_is, rules)
