-- `claim_aliases::is_alias` meets its contract.
use borrow.Author.Rules.{rules}
use Rattle.claim_aliases.specs.Aliases.{is_alias}
use Rattle.claim_aliases.proofs.is_alias.Goals as goal

pub returns : goal.returns
returns c = unfold is_alias in search rules
