-- `anonymise::run::write_row` meets its contract.
use Rattle.anonymise.proofs.Rows.{ways}
use Rattle.anonymise.proofs.run.write_row.Goals as goal

pub returns : goal.returns
returns c = search ways
