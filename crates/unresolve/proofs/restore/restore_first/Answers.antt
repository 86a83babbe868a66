-- `unresolve::restore::restore_first` meets its contract.
use Rattle.unresolve.proofs.Ways.{empty_holds}
use borrow.Author.Rules.{rules}
use Rattle.unresolve.proofs.restore.restore_first.Goals as goal

pub restore-requires : goal.restore-requires
restore-requires c = (search rules, search (empty_holds, rules))
