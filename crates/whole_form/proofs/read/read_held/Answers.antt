-- `whole_form::read::read_held` meets its contract.
use Rattle.whole_form.proofs.Ways.{head_bad, read_ways}
use Rattle.whole_form.proofs.read.read_held.Goals as goal

pub returns-in_err-rows : goal.returns-in_err-rows
returns-in_err-rows c = head_bad _ _ _ c.header_to.ensures c.requires _ _ c.in_err-rows.was c.from_residual.ensures.1

pub read_body-requires : goal.read_body-requires
read_body-requires c = search read_ways

pub returns : goal.returns
returns c = search read_ways
