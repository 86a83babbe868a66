-- `matched::fields::front` meets its contract.
use borrow.Author.Rules.{rules}
use Rattle.matched.proofs.Ways.{front_starts, front_done, front_other, front_again}
use Rattle.matched.proofs.fields.front.Goals as goal

pub loop-i-init : goal.loop-i-init
loop-i-init c = (search (front_starts, rules), search rules)

pub returns-then-end-i : goal.returns-then-end-i
returns-then-end-i c = (search (front_other, rules), search rules)

pub loop-i-preserved : goal.loop-i-preserved
loop-i-preserved c = (search (front_again, rules), search rules)

pub returns : goal.returns
returns c = (search (front_done, rules), search rules)
