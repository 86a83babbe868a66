-- `numbers::entry_at` meets its contract.
use Rattle.numbers.proofs.Ways.{ways}
use Rattle.numbers.proofs.entry_at.Goals as goal

pub returns-then-not-is_written : goal.returns-then-not-is_written
returns-then-not-is_written c = search ways

pub returns-in_err-scope : goal.returns-in_err-scope
returns-in_err-scope c = search ways

pub returns : goal.returns
returns c = search (ways, c.in_ok-scope.was)
