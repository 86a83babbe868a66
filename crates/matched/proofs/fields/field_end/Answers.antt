-- `matched::fields::field_end` meets its contract.
use borrow.Author.Rules.{rules}
use Rattle.matched.proofs.Ways.{end_past, end_there}
use Rattle.matched.proofs.fields.field_end.Goals as goal

pub returns-then-rows-i : goal.returns-then-rows-i
returns-then-rows-i c = search (end_past, rules)

pub returns : goal.returns
returns c = search (end_there, rules)
