-- `unresolve_with::clear_back` meets its contract.
use Rattle.unresolve_with.proofs.Ways.{back_cleared}
use borrow.Author.Rules.{rules}
use Rattle.unresolve_with.proofs.clear_back.Goals as goal

pub returns : goal.returns
returns c = search (back_cleared, rules)
