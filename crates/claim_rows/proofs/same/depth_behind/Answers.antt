-- `claim_rows::same::depth_behind` meets its contract.
use Rattle.claim_rows.proofs.Ways.{depths}
use borrow.Author.Rules.{rules}
use Rattle.claim_rows.proofs.same.depth_behind.Goals as goal

pub returns-then-depth-gt1 : goal.returns-then-depth-gt1
returns-then-depth-gt1 c = (search depths, search rules)

pub returns-then-begins : goal.returns-then-begins
returns-then-begins c = (search depths, search rules)

pub returns-else-begins : goal.returns-else-begins
returns-else-begins c = (search depths, search rules)

pub returns-then-depth-eq0 : goal.returns-then-depth-eq0
returns-then-depth-eq0 c = (search depths, search rules)

pub returns-else-depth-eq0 : goal.returns-else-depth-eq0
returns-else-depth-eq0 c = (search depths, search rules)

pub returns-then-depth-eq0-2 : goal.returns-then-depth-eq0-2
returns-then-depth-eq0-2 c = (search depths, search rules)

pub returns-else-depth-eq0-2 : goal.returns-else-depth-eq0-2
returns-else-depth-eq0-2 c = (search depths, search rules)

pub returns : goal.returns
returns c = (search depths, search rules)
