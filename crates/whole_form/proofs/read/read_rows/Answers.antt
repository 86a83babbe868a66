-- `whole_form::read::read_rows` meets its contract.
use Rattle.whole_form.proofs.Ways.{read_ways}
use Rattle.whole_form.proofs.read.read_rows.Goals as goal

pub returns-in-Err-Broken : goal.returns-in-Err-Broken
returns-in-Err-Broken c = search read_ways

pub returns-in-Err-Deep : goal.returns-in-Err-Deep
returns-in-Err-Deep c = search read_ways

pub returns-in-Ok : goal.returns-in-Ok
returns-in-Ok c = search read_ways
