-- `mend_read::read_mended` meets its contract.
use Rattle.mend_read.proofs.Ways.{mended_ways}
use Rattle.mend_read.proofs.read_mended.Goals as goal

pub returns-in_default : goal.returns-in_default
returns-in_default c = search mended_ways

pub returns-then-kind-ne0 : goal.returns-then-kind-ne0
returns-then-kind-ne0 c = search mended_ways

pub returns-then-scopes-eq0 : goal.returns-then-scopes-eq0
returns-then-scopes-eq0 c = search mended_ways

pub returns : goal.returns
returns c = search mended_ways
