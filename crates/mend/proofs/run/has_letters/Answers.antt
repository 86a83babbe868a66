-- `mend::run::has_letters` meets its contract.
use Rattle.mend.proofs.Ways.{letters_is}
use borrow.Author.Rules.{rules}
use Rattle.mend.proofs.run.has_letters.Goals as goal

pub returns : goal.returns
returns c = search (letters_is, rules)
