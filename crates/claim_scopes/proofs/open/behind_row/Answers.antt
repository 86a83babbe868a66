-- `claim_scopes::open::behind_row` meets its contract.
use Rattle.claim_scopes.proofs.Ways.{behinds}
use Rattle.claim_scopes.proofs.open.behind_row.Goals as goal

pub returns-then-depth-scopes : goal.returns-then-depth-scopes
returns-then-depth-scopes c = search behinds

pub returns-then-p-eq-OPEN : goal.returns-then-p-eq-OPEN
returns-then-p-eq-OPEN c = search behinds

pub returns-then-depth-eq0 : goal.returns-then-depth-eq0
returns-then-depth-eq0 c = search behinds

pub returns-else-depth-eq0 : goal.returns-else-depth-eq0
returns-else-depth-eq0 c = search behinds

pub returns : goal.returns
returns c = search behinds
