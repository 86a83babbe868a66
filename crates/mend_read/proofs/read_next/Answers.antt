-- `mend_read::read_next` meets its contract.
use Rattle.mend_read.proofs.Ways.{next_read}
use borrow.Author.Rules.{rules}
use Rattle.mend_read.proofs.read_next.Goals as goal

pub returns : goal.returns
returns c = search (next_read, rules)
