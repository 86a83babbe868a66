-- `claim_rows::same::behind` meets its contract.
use Rattle.claim_rows.proofs.Ways.{following}
use Rattle.claim_rows.proofs.same.behind.Goals as goal

pub returns-then-depth-gt0 : goal.returns-then-depth-gt0
returns-then-depth-gt0 c = search following

pub returns-then-input-j : goal.returns-then-input-j
returns-then-input-j c = search following

pub returns : goal.returns
returns c = search following
