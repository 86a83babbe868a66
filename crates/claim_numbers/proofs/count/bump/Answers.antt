-- `claim_numbers::count::bump` meets its contract.
use Rattle.claim_numbers.proofs.Ways.{bumps}
use Rattle.claim_numbers.proofs.count.bump.Goals as goal

pub returns-then-counts-level : goal.returns-then-counts-level
returns-then-counts-level c = search bumps

pub returns-then-space-ge-SPACES : goal.returns-then-space-ge-SPACES
returns-then-space-ge-SPACES c = search bumps

pub returns : goal.returns
returns c = search bumps
