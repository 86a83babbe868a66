-- `unresolve_with::restore_lent` meets its contract.
use Rattle.unresolve_with.proofs.Ways.{lent_holds, restoring}
use borrow.Author.Rules.{rules}
use Rattle.unresolve_with.proofs.restore_lent.Goals as goal

pub restore-requires : goal.restore-requires
restore-requires c = (search rules, search (lent_holds, rules))

pub returns : goal.returns
returns c = (search restoring, search rules)
