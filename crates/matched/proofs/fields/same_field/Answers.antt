-- `matched::fields::same_field` meets its contract.
use borrow.Author.Rules.{rules}
use Rattle.matched.proofs.Ways.{other_end, same_end}
use Rattle.matched.proofs.fields.same_field.Goals as goal

pub returns-then-end_from-end : goal.returns-then-end_from-end
returns-then-end_from-end c = search (other_end, rules)

pub returns : goal.returns
returns c = search (same_end, rules)
