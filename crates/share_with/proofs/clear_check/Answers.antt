-- `share_with::clear_check` meets its contract.
use borrow.Author.Rules.{rules}
use Rattle.share_with.proofs.clear_check.Goals as goal

pub returns : goal.returns
returns c = (search rules, search rules, search rules)
