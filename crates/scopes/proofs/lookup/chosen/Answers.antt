-- `scopes::lookup::chosen` meets its contract.
use Rattle.kit.proofs.Laws.{picks}
use Rattle.scopes.proofs.lookup.chosen.Goals as goal

pub returns-then-test : goal.returns-then-test
returns-then-test c = search picks

pub returns-else-test : goal.returns-else-test
returns-else-test c = search picks
