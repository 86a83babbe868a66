-- `share_with::resolve_own` meets its contract.
use Rattle.share_with.proofs.Ways.{own_ran}
use borrow.Author.Rules.{rules}
use Rattle.share_with.proofs.resolve_own.Goals as goal

pub returns : goal.returns
returns c = record { ran = search (own_ran, rules); cleared = search rules }
