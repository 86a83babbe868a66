-- `member_with::sizes::are_small` meets its contract.
use Rattle.member_with.proofs.Ways.{small_tests}
use borrow.Author.Rules.{rules}
use Rattle.member_with.proofs.sizes.are_small.Goals as goal

pub returns : goal.returns
returns c = search (small_tests, rules)
