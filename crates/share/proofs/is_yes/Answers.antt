-- `share::is_yes` meets its contract.
use borrow.Author.Rules.{rules}
use Rattle.share.proofs.Ways.{is_yes_lem, is_no, is_refusal}
use Rattle.share.proofs.is_yes.Goals as goal

pub returns-in-Ok-Yes : goal.returns-in-Ok-Yes
returns-in-Ok-Yes c = search (is_yes_lem, rules)

pub returns-in-Ok-No : goal.returns-in-Ok-No
returns-in-Ok-No c = search (is_no, rules)

pub returns-in-Err : goal.returns-in-Err
returns-in-Err c = search (is_refusal, rules)
