-- `meanings::entries::read` meets its contract.
use Rattle.meanings.proofs.EntryLaws.{told_ways}
use Rattle.meanings.proofs.entries.read.Goals as goal

pub returns-in_err-row : goal.returns-in_err-row
returns-in_err-row c = search (told_ways, c.in_err-row.ensures)

pub returns-then-row-gt65535 : goal.returns-then-row-gt65535
returns-then-row-gt65535 c = search (told_ways, c.in_ok-row.ensures)

pub returns : goal.returns
returns c = search (told_ways, c.in_ok-row.ensures)
