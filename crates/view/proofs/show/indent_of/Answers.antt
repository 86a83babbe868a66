-- `view::show::indent_of` meets its contract.
use Rattle.view.proofs.ShownLaws.{shown_ways}
use Rattle.view.proofs.show.indent_of.Goals as goal

pub returns-then-level-eq0 : goal.returns-then-level-eq0
returns-then-level-eq0 c = search shown_ways

pub returns-then-level-gt32 : goal.returns-then-level-gt32
returns-then-level-gt32 c = search shown_ways

pub returns-then-code-eq-FIELD : goal.returns-then-code-eq-FIELD
returns-then-code-eq-FIELD c = search shown_ways

pub returns-then-code-eq-CLOSE : goal.returns-then-code-eq-CLOSE
returns-then-code-eq-CLOSE c = search shown_ways

pub returns-else-code-eq-CLOSE : goal.returns-else-code-eq-CLOSE
returns-else-code-eq-CLOSE c = search shown_ways
