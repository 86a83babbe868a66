-- `shapes::resource_of` meets its contract.
use Rattle.shapes.proofs.Laws.{resource_today, resource_newer}
use borrow.Author.Rules.{rules}
use Rattle.shapes.proofs.resource_of.Goals as goal

pub returns-then-rules-eq0 : goal.returns-then-rules-eq0
returns-then-rules-eq0 c = search (resource_today, rules)

pub returns-else-rules-eq0 : goal.returns-else-rules-eq0
returns-else-rules-eq0 c = search (resource_newer, rules)
