-- `convert::run::put_form` meets its contract.
use Rattle.convert.proofs.Ways.{rows_ways}
use Rattle.convert.proofs.run.put_form.Goals as goal

pub returns : goal.returns
returns c = search rows_ways
