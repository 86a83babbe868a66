-- `matched::fields::middle` meets its contract.
use borrow.Author.Rules.{rules}
use Rattle.matched.proofs.Ways.{left_short, right_short, rest_found}
use Rattle.matched.proofs.fields.middle.Goals as goal

pub returns-then-m-lt2 : goal.returns-then-m-lt2
returns-then-m-lt2 c = search (left_short, rules)

pub returns-then-n-lt2 : goal.returns-then-n-lt2
returns-then-n-lt2 c = search (right_short, rules)

pub returns : goal.returns
returns c = search (rest_found, rules)
