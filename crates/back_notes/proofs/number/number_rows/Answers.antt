-- `back_notes::number::number_rows` meets its contract.
use Rattle.back_notes.proofs.Ways.{turn_goes, turns}
use borrow.Author.Rules.{rules}
use Rattle.back_notes.proofs.number.number_rows.Goals as goal

pub loop-i-init : goal.loop-i-init
loop-i-init c = (search turns, search rules)

pub loop-i-preserved : goal.loop-i-preserved
loop-i-preserved c = (search (turn_goes, rules), search rules)

pub returns : goal.returns
returns c = search turns
