-- `row_code::code_at` meets its contract.
use Rattle.kit.proofs.Laws.{yes!, no!, tests}
use Rattle.row_code.specs.Code.{code_at}
use Rattle.row_code.proofs.code_at.Goals as goal

pub returns-then-rows-i : goal.returns-then-rows-i
unfolding code_at
returns-then-rows-i c = no! _ (omega tests) (cc)

pub returns : goal.returns
unfolding code_at
returns c = yes! _ (omega tests) (cc)
