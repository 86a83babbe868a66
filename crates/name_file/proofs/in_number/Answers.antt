-- `name_file::in_number` meets its contract.
use Rattle.name_file.proofs.Laws.{line_ways}
use Rattle.name_file.proofs.in_number.Goals as goal

pub returns-then-line-lt4294967296 : goal.returns-then-line-lt4294967296
returns-then-line-lt4294967296 c = search line_ways

pub returns-else-line-lt4294967296 : goal.returns-else-line-lt4294967296
returns-else-line-lt4294967296 c = search line_ways

pub returns-else-byte-eq32 : goal.returns-else-byte-eq32
returns-else-byte-eq32 c = search line_ways
