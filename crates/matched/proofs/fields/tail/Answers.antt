-- `matched::fields::tail` meets its contract.
use borrow.Author.Rules.{rules}
use Rattle.matched.proofs.Ways.{tails}
use Rattle.matched.proofs.fields.tail.Goals as goal

pub loop-i-init : goal.loop-i-init
loop-i-init c = (search tails, search rules, search rules)

pub loop-i-preserved : goal.loop-i-preserved
loop-i-preserved c = (search tails, search rules, search rules)

pub returns : goal.returns
returns c = (search tails, search rules, search rules, search rules)
