-- `share_with::is_small` meets its contract.
use Rattle.share_with.proofs.Ways.{small_tests}
use borrow.Author.Rules.{rules}
use Rattle.share_with.proofs.is_small.Goals as goal

pub returns : goal.returns
returns c = search (small_tests, rules)
