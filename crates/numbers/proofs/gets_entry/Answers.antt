-- `numbers::gets_entry` meets its contract.
use Rattle.numbers.proofs.Ways.{ways}
use Rattle.numbers.proofs.gets_entry.Goals as goal

pub returns-then-not-is_pushed : goal.returns-then-not-is_pushed
returns-then-not-is_pushed c = search ways

pub returns-in_err-row : goal.returns-in_err-row
returns-in_err-row c = search ways

pub returns : goal.returns
returns c = search (ways, c.in_ok-row.was)
