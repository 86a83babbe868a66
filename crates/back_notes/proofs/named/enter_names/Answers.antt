-- `back_notes::named::enter_names` meets its contract.
use Rattle.back_notes.proofs.Ways.{enterings}
use borrow.Author.Rules.{rules}
use Rattle.back_notes.proofs.named.enter_names.Goals as goal

pub loop-i-init : goal.loop-i-init
loop-i-init c = (search enterings, search rules, search rules, search rules)

pub loop-i-preserved : goal.loop-i-preserved
loop-i-preserved c = (search enterings, search rules, search rules, search rules)

pub returns : goal.returns
returns c = (search enterings, search rules)
