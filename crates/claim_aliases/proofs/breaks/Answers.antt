-- `claim_aliases::breaks` meets its contract.
use Rattle.claim_aliases.proofs.Ways.{breaking}
use Rattle.claim_aliases.proofs.breaks.Goals as goal

pub returns-then-not-added : goal.returns-then-not-added
returns-then-not-added c = search breaking

pub returns-then-p-eq-FIELD : goal.returns-then-p-eq-FIELD
returns-then-p-eq-FIELD c = search breaking

pub returns-then-p-eq-DECL : goal.returns-then-p-eq-DECL
returns-then-p-eq-DECL c = search breaking

pub returns : goal.returns
returns c = search breaking
