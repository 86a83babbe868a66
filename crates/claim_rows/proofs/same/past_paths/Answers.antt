-- `claim_rows::same::past_paths` meets its contract.
use Rattle.claim_rows.proofs.Ways.{passing}
use Rattle.claim_rows.proofs.same.past_paths.Goals as goal

pub returns-then-parts_at-ne-PATH : goal.returns-then-parts_at-ne-PATH
returns-then-parts_at-ne-PATH c = search passing

pub loop-i-preserved : goal.loop-i-preserved
loop-i-preserved c = search passing

pub returns : goal.returns
returns c = search passing
