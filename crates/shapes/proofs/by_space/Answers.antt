-- `shapes::by_space` meets its contract.
use Rattle.shapes.proofs.Laws.{known_yes, known_no}
use borrow.Author.Rules.{rules}
use Rattle.shapes.proofs.by_space.Goals as goal

pub returns-then-space-le12 : goal.returns-then-space-le12
returns-then-space-le12 c = search (known_yes, known_no, rules)

pub returns-else-space-le12 : goal.returns-else-space-le12
returns-else-space-le12 c = search (known_yes, known_no, rules)
