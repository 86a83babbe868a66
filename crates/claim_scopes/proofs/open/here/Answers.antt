-- `claim_scopes::open::here` meets its contract.
use Rattle.claim_scopes.proofs.Ways.{here_is}
use borrow.Author.Rules.{rules}
use Rattle.claim_scopes.proofs.open.here.Goals as goal

pub returns : goal.returns
returns c = search (here_is, rules)
