-- `limits::of_claim` meets its contract.
use borrow.Author.Rules.{rules}
use Rattle.limits.proofs.Laws.{rows_fit, entry_claimed}
use Rattle.limits.proofs.of_claim.Goals as goal

pub overflow_mul-result : goal.overflow_mul-result
overflow_mul-result c = search (rows_fit, rules)

pub returns : goal.returns
returns c = search (entry_claimed, rules)
