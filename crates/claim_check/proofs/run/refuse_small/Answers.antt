-- `claim_check::run::refuse_small` meets its contract.
use Rattle.claim_check.proofs.Runs.{small_header, smalls}
use Rattle.claim_check.proofs.run.refuse_small.Goals as goal

pub returns-in_err-header_to : goal.returns-in_err-header_to
returns-in_err-header_to c = small_header _ _ _ c.of_input.ensures _ c.header_to.ensures _ c.in_err-header_to.was _ c.from_residual.ensures.1

pub returns : goal.returns
returns c = search smalls
