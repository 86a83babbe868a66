-- `claim_reach::alias::counted` meets its contract.
use Rattle.claim_reach.proofs.Ways.{rows_of_alias}
use Rattle.claim_reach.proofs.alias.counted.Goals as goal

pub returns-then-number-lt65536 : goal.returns-then-number-lt65536
returns-then-number-lt65536 c = search rows_of_alias

pub returns-else-number-lt65536 : goal.returns-else-number-lt65536
returns-else-number-lt65536 c = search rows_of_alias
