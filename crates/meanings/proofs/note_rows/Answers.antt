-- `meanings::note_rows` meets its contract.
use Rattle.meanings.proofs.EntryLaws.{note_ways}
use borrow.Author.Rules.{rules}
use Rattle.meanings.proofs.note_rows.Goals as goal

pub loop-row-init : goal.loop-row-init
loop-row-init c = (search note_ways, search rules)

pub loop-row-preserved : goal.loop-row-preserved
loop-row-preserved c = (search note_ways, search rules)

pub returns : goal.returns
returns c = search note_ways
