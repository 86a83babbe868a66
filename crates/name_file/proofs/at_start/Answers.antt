-- `name_file::at_start` meets its contract.
use Rattle.name_file.proofs.Laws.{line_ways}
use Rattle.name_file.proofs.at_start.Goals as goal

pub returns-then-byte-eq13 : goal.returns-then-byte-eq13
returns-then-byte-eq13 c = search line_ways

pub returns-then-byte-line : goal.returns-then-byte-line
returns-then-byte-line c = search line_ways

pub returns : goal.returns
returns c = search line_ways
