-- `mend_read::read_rows` meets its contract. The invariant: what the rows from here on come to is what they come to from the start.
use borrow.Author.Rules.{rules}
use Rattle.mend_read.proofs.Ways.{next_ways}
use Rattle.mend_read.proofs.read_rows.Goals as goal

pub loop-s-init : goal.loop-s-init
loop-s-init c = (search next_ways, search rules)

pub returns-then-n-i : goal.returns-then-n-i
returns-then-n-i c = search next_ways

pub loop-s-preserved : goal.loop-s-preserved
loop-s-preserved c = (search next_ways, search rules)

pub returns : goal.returns
returns c = search next_ways
