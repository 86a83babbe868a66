-- `claim_scopes::entries::look_up` meets its contract.
use Rattle.claim_scopes.proofs.Ways.{looks}
use Rattle.claim_scopes.proofs.entries.look_up.Goals as goal

pub find-requires : goal.find-requires
find-requires c = search looks

pub returns : goal.returns
returns c = search looks
