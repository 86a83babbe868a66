-- `mend::run::asks_for` meets its contract.
use Rattle.mend.proofs.Ways.{asks_ways}
use Rattle.mend.proofs.run.asks_for.Goals as goal

pub returns-then-form-lt8 : goal.returns-then-form-lt8
returns-then-form-lt8 c = search asks_ways

pub returns-then-form-from : goal.returns-then-form-from
returns-then-form-from c = search asks_ways

pub returns : goal.returns
returns c = search asks_ways
