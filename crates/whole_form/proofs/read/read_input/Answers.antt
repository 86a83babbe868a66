-- `whole_form::read::read_input` meets its contract.
use Rattle.whole_form.proofs.Ways.{read_ways}
use Rattle.whole_form.proofs.read.read_input.Goals as goal

pub read_held-requires : goal.read_held-requires
read_held-requires c = search read_ways

pub returns : goal.returns
returns c = search read_ways
