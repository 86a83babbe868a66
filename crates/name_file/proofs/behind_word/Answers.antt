-- `name_file::behind_word` meets its contract.
use Rattle.name_file.proofs.Laws.{line_ways}
use Rattle.name_file.proofs.behind_word.Goals as goal

pub returns-then-byte-eq13 : goal.returns-then-byte-eq13
returns-then-byte-eq13 c = search line_ways

pub returns-else-byte-eq13 : goal.returns-else-byte-eq13
returns-else-byte-eq13 c = search line_ways
