-- `claim_rows::added::is_added` meets its contract.
use Rattle.claim_rows.proofs.Ways.{adding}
use Rattle.claim_rows.proofs.added.is_added.Goals as goal

pub returns-then-code-eq-FIELD : goal.returns-then-code-eq-FIELD
returns-then-code-eq-FIELD c = search adding

pub returns-then-code-eq-CLOSE : goal.returns-then-code-eq-CLOSE
returns-then-code-eq-CLOSE c = search adding

pub returns : goal.returns
returns c = search adding
