-- `mark::enter_row` meets its contract.
use Rattle.mark.proofs.Ways.{enter_ways}
use Rattle.mark.proofs.enter_row.Goals as goal

pub returns-then-p-eq-DECL : goal.returns-then-p-eq-DECL
returns-then-p-eq-DECL c = search enter_ways

pub returns : goal.returns
returns c = search enter_ways
