-- `claim_numbers::enter::enter_decl` meets its contract.
use Rattle.claim_numbers.proofs.Ways.{entering}
use borrow.Author.Rules.{rules}
use Rattle.claim_numbers.proofs.enter.enter_decl.Goals as goal

pub returns-then-p-ne-DECL : goal.returns-then-p-ne-DECL
returns-then-p-ne-DECL c = (search entering, search rules)

pub returns-then-c : goal.returns-then-c
returns-then-c c = (search entering, search rules)

pub returns : goal.returns
returns c = (search entering, search rules)
