-- `claim_rows::same::is_same` meets its contract.
use borrow.Author.Rules.{rules}
use Rattle.claim_rows.specs.Same.{is_same_t}
use Rattle.claim_rows.proofs.same.is_same.Goals as goal

pub returns : goal.returns
returns c = unfold is_same_t in search rules
