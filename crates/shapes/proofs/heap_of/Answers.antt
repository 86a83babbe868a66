-- `shapes::heap_of` meets its contract.
use Rattle.shapes.proofs.Laws.{heap_today, heap_newer}
use borrow.Author.Rules.{rules}
use Rattle.shapes.proofs.heap_of.Goals as goal

pub returns-then-rules-eq0 : goal.returns-then-rules-eq0
returns-then-rules-eq0 c = search (heap_today, rules)

pub returns-else-rules-eq0 : goal.returns-else-rules-eq0
returns-else-rules-eq0 c = search (heap_newer, rules)
