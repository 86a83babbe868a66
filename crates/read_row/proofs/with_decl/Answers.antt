-- `read_row::with_decl` meets its contract.
use Rattle.kit.proofs.Laws.{yes!, no!, tests}
use Rattle.read_row.specs.Machine.{declared_t}
use Rattle.read_row.proofs.with_decl.Goals as goal

pub returns-then-f-eq0 : goal.returns-then-f-eq0
unfolding declared_t
returns-then-f-eq0 c = yes! _ (omega tests) (cc)

pub returns : goal.returns
unfolding declared_t
returns c = no! _ (omega tests) (cc)
