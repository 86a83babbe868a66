-- `inside::admit::held` meets its contract.
use Rattle.inside.proofs.Ways.{held_less, held_is}
use borrow.Author.Rules.{rules}
use Rattle.inside.proofs.admit.held.Goals as goal

pub overflow_sub-result : goal.overflow_sub-result
overflow_sub-result c = search (held_less, rules)

pub returns : goal.returns
returns c = search (held_is, rules)
