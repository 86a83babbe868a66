-- `claim_operands::paths::through_paths` meets its contract.
use Rattle.claim_operands.proofs.Ways.{following}
use Rattle.claim_operands.proofs.paths.through_paths.Goals as goal

pub loop-left-init : goal.loop-left-init
loop-left-init c = search following

pub returns-in_err-through_export : goal.returns-in_err-through_export
returns-in_err-through_export c = search following

pub loop-left-preserved : goal.loop-left-preserved
loop-left-preserved c = search following

pub returns : goal.returns
returns c = search following
