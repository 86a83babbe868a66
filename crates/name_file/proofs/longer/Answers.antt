-- `name_file::longer` meets its contract.
use Rattle.name_file.proofs.Laws.{number_ways}
use Rattle.name_file.proofs.longer.Goals as goal

pub overflow_sub-result : goal.overflow_sub-result
overflow_sub-result c = search number_ways

pub returns-then-number-lt4294967296 : goal.returns-then-number-lt4294967296
returns-then-number-lt4294967296 c = search number_ways

pub returns-else-number-lt4294967296 : goal.returns-else-number-lt4294967296
returns-else-number-lt4294967296 c = search number_ways
