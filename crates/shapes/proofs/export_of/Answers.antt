-- `shapes::export_of` meets its contract.
use Rattle.shapes.proofs.Laws.{export_own, export_ascribed}
use borrow.Author.Rules.{rules}
use Rattle.shapes.proofs.export_of.Goals as goal

pub returns-then-e-eq0 : goal.returns-then-e-eq0
returns-then-e-eq0 c = search (export_own, export_ascribed, rules)

pub returns-else-e-eq0 : goal.returns-else-e-eq0
returns-else-e-eq0 c = search (export_own, export_ascribed, rules)
