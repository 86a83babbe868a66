-- `reader::read_on` meets its contract. The invariant: what the rows from here on come to is what they come to from the start.
use borrow.Author.Rules.{rules}
use Rattle.reader.proofs.Steps.{on_ways}
use Rattle.reader.proofs.read_on.Goals as goal

pub loop-s-init : goal.loop-s-init
loop-s-init c = (search on_ways, search rules)

pub returns-then-n-i : goal.returns-then-n-i
returns-then-n-i c = search on_ways

pub loop-s-preserved : goal.loop-s-preserved
loop-s-preserved c = (search on_ways, search rules)

pub returns : goal.returns
returns c = search on_ways
