-- `numbers::output_entry` meets its contract.
use Rattle.numbers.proofs.Ways.{ways}
use Rattle.numbers.proofs.output_entry.Goals as goal

pub returns-in_err-scope : goal.returns-in_err-scope
returns-in_err-scope c = search ways

pub returns : goal.returns
returns c = search (ways, c.in_ok-scope.was)
