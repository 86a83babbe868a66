-- `mend::run::setting_for` meets its contract.
use Rattle.mend.proofs.Ways.{place_ways}
use Rattle.mend.proofs.run.setting_for.Goals as goal

pub returns-then-asks_for : goal.returns-then-asks_for
returns-then-asks_for c = search place_ways

pub returns-then-asks_for-2 : goal.returns-then-asks_for-2
returns-then-asks_for-2 c = search place_ways

pub returns-then-asks_for-3 : goal.returns-then-asks_for-3
returns-then-asks_for-3 c = search place_ways

pub returns : goal.returns
returns c = search place_ways
