-- `meanings::tables::scope_behind` meets its contract.
use Rattle.scopes.proofs.TableLaws.{behind_ways}
use Rattle.meanings.proofs.tables.scope_behind.Goals as goal

pub returns-then-code-eq-OPEN : goal.returns-then-code-eq-OPEN
returns-then-code-eq-OPEN c = search behind_ways

pub returns-then-around-gt0 : goal.returns-then-around-gt0
returns-then-around-gt0 c = search behind_ways

pub returns-else-around-gt0 : goal.returns-else-around-gt0
returns-else-around-gt0 c = search behind_ways

pub returns-else-code-eq-CLOSE : goal.returns-else-code-eq-CLOSE
returns-else-code-eq-CLOSE c = search behind_ways
