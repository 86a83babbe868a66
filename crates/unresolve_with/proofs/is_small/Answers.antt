-- `unresolve_with::is_small` meets its contract.
use Rattle.unresolve_with.proofs.Whole.{small_tests}
use borrow.Author.Rules.{rules}
use Rattle.unresolve_with.proofs.is_small.Goals as goal

pub returns : goal.returns
returns c = search (small_tests, rules)
