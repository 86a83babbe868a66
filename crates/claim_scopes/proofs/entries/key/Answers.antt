-- `claim_scopes::entries::key` meets its contract.
use Rattle.claim_scopes.specs.Entries.{entry_key_t}
use borrow.Author.Rules.{rules}
use Rattle.claim_scopes.proofs.entries.key.Goals as goal

pub returns : goal.returns
returns c = unfold entry_key_t in search rules
