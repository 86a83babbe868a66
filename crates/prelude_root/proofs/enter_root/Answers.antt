-- `prelude_root::enter_root` meets its contract.
use borrow.Author.Rules.{rules}
use Rattle.prelude_root.proofs.Ways.{turns}
use Rattle.prelude_root.proofs.enter_root.Goals as goal

pub loop-i-init : goal.loop-i-init
loop-i-init c = (search turns, search rules, search rules, search rules, search rules, search rules)

pub loop-i-preserved : goal.loop-i-preserved
loop-i-preserved c = (search turns, search rules, search rules, search rules, search rules, search rules)

pub returns : goal.returns
returns c = (search turns, search rules)
