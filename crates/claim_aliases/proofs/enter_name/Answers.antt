-- `claim_aliases::enter_name` meets its contract.
use Rattle.claim_aliases.proofs.Ways.{entering}
use borrow.Author.Rules.{rules}
use Rattle.claim_aliases.proofs.enter_name.Goals as goal

pub returns-then-not-added : goal.returns-then-not-added
returns-then-not-added c = (search entering, search rules)

pub returns-then-p-ne-DECL : goal.returns-then-p-ne-DECL
returns-then-p-ne-DECL c = (search entering, search rules)

pub returns : goal.returns
returns c = (search entering, search rules)
