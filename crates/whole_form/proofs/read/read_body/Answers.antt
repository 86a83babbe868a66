-- `whole_form::read::read_body` meets its contract.
use Rattle.whole_form.proofs.Ways.{read_ways}
use Rattle.whole_form.proofs.read.read_body.Goals as goal

pub returns : goal.returns
returns c = search read_ways
