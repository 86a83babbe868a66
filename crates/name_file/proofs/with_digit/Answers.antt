-- `name_file::with_digit` meets its contract.
use Rattle.name_file.proofs.Laws.{line_ways}
use Rattle.name_file.proofs.with_digit.Goals as goal

pub longer-requires : goal.longer-requires
longer-requires c = search line_ways

pub returns-then-is_digit : goal.returns-then-is_digit
returns-then-is_digit c = search line_ways

pub returns-else-is_digit : goal.returns-else-is_digit
returns-else-is_digit c = search line_ways
