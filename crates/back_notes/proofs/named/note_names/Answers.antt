-- `back_notes::named::note_names` meets its contract.
use Rattle.back_notes.proofs.Ways.{namings}
use borrow.Author.Rules.{rules}
use Rattle.back_notes.proofs.named.note_names.Goals as goal

pub loop-i-init : goal.loop-i-init
loop-i-init c = (search namings, search rules)

pub loop-i-preserved : goal.loop-i-preserved
loop-i-preserved c = (search namings, search rules)

pub returns : goal.returns
returns c = search namings
