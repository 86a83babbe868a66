-- `prelude_root::behind` meets its contract.
use Rattle.prelude_root.proofs.Ways.{depths}
use borrow.Author.Rules.{rules}
use Rattle.prelude_root.proofs.behind.Goals as goal

pub returns-then-code-eq-OPEN : goal.returns-then-code-eq-OPEN
returns-then-code-eq-OPEN c = (search depths, search rules)

pub returns-then-depth-eq0 : goal.returns-then-depth-eq0
returns-then-depth-eq0 c = (search depths, search rules)

pub returns-else-depth-eq0 : goal.returns-else-depth-eq0
returns-else-depth-eq0 c = (search depths, search rules)

pub returns : goal.returns
returns c = (search depths, search rules)
