-- `share_with::clear_marked` meets its contract.
use Rattle.share_with.proofs.Ways.{marked_cleared}
use borrow.Author.Rules.{rules}
use Rattle.share_with.proofs.clear_marked.Goals as goal

pub returns : goal.returns
returns c = search (marked_cleared, rules)
