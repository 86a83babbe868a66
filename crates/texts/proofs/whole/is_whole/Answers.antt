-- `texts::whole::is_whole` meets its contract.
use borrow.Author.Rules.{rules}
use Rattle.texts.proofs.Laws.{whole_is}
use Rattle.texts.proofs.whole.is_whole.Goals as goal

pub returns : goal.returns
returns c = search (whole_is, rules)
