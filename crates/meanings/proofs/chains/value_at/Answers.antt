-- `meanings::chains::value_at` meets its contract.
use Rattle.scopes.proofs.ChainLaws.{chain_ways}
use Rattle.meanings.proofs.chains.value_at.Goals as goal

pub returns-then-kind-eq-BY_NAME : goal.returns-then-kind-eq-BY_NAME
returns-then-kind-eq-BY_NAME c = search chain_ways

pub returns-then-kind-eq-BY_NUMBER : goal.returns-then-kind-eq-BY_NUMBER
returns-then-kind-eq-BY_NUMBER c = search chain_ways

pub returns-else-kind-eq-BY_NUMBER : goal.returns-else-kind-eq-BY_NUMBER
returns-else-kind-eq-BY_NUMBER c = search chain_ways
