-- `matched::fields::depth_behind` meets its contract.
use borrow.Author.Rules.{rules}
use Rattle.matched.proofs.Ways.{depths}
use Rattle.matched.proofs.fields.depth_behind.Goals as goal

pub returns-then-code-eq-OPEN : goal.returns-then-code-eq-OPEN
returns-then-code-eq-OPEN c = (search depths, search rules)

pub returns-then-code-ne-CLOSE : goal.returns-then-code-ne-CLOSE
returns-then-code-ne-CLOSE c = (search depths, search rules)

pub returns-then-depth-eq0 : goal.returns-then-depth-eq0
returns-then-depth-eq0 c = (search depths, search rules)

pub returns-else-depth-eq0 : goal.returns-else-depth-eq0
returns-else-depth-eq0 c = (search depths, search rules)
