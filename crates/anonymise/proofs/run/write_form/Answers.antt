-- `anonymise::run::write_form` meets its contract.
use Rattle.anonymise.proofs.Ways.{runs}
use Rattle.anonymise.proofs.run.write_form.Goals as goal

pub enter_rows-used-requires : goal.enter_rows-used-requires
enter_rows-used-requires c = search runs

pub returns : goal.returns
returns c = search runs
