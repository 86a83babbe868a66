-- `check_with::try_input` meets its contract.
use Rattle.claim_check.proofs.Runs.{input_long}
use Rattle.check_with.proofs.Ways.{input_refused, input_whole}
use borrow.Author.Rules.{rules}
use Rattle.check_with.proofs.try_input.Goals as goal

pub try_steps-requires : goal.try_steps-requires
try_steps-requires c = (search rules, search (input_long, rules, c.in_ok-read_input.was))

pub returns-in_err-read_input : goal.returns-in_err-read_input
returns-in_err-read_input c =
    input_refused _ c.shared_slice_known-1.given _ _ _ _ _ _ c.requires _ c.read_input.ensures _ c.in_err-read_input.was _ c.from_residual.ensures.1

pub returns : goal.returns
returns c =
    input_whole _ c.shared_slice_known-1.given _ _ _ _ _ _ c.requires _ c.read_input.ensures _ c.in_ok-read_input.was _ c.try_steps.ensures
