-- `matched::fields::next` meets its contract.
use borrow.Author.Rules.{rules}
use Rattle.matched.proofs.Ways.{next_left, next_right, next_same, next_other}
use Rattle.matched.proofs.fields.next.Goals as goal

pub returns-then-left-i : goal.returns-then-left-i
returns-then-left-i c = (search (next_left, rules), search rules)

pub returns-then-right-i : goal.returns-then-right-i
returns-then-right-i c = (search (next_right, rules), search rules)

pub returns-then-same_field : goal.returns-then-same_field
returns-then-same_field c = (search next_same, search rules)

pub returns-else-same_field : goal.returns-else-same_field
returns-else-same_field c = (search next_other, search rules)
