-- `name_file::one_more` meets its contract.
use Rattle.name_file.proofs.Laws.{number_ways}
use Rattle.name_file.proofs.one_more.Goals as goal

pub returns-then-count-lt4294967295 : goal.returns-then-count-lt4294967295
returns-then-count-lt4294967295 c = search number_ways

pub returns-else-count-lt4294967295 : goal.returns-else-count-lt4294967295
returns-else-count-lt4294967295 c = search number_ways
