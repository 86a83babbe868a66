-- `anonymise::run::copy_key` meets its contract.
use Rattle.anonymise.proofs.Rows.{ways}
use Rattle.anonymise.proofs.run.copy_key.Goals as goal

pub returns : goal.returns
returns c = search ways
