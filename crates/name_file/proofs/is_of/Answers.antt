-- `name_file::is_of` meets its contract.
use Rattle.name_file.proofs.Laws.{end_ways}
use Rattle.name_file.proofs.is_of.Goals as goal

pub returns-then-exported : goal.returns-then-exported
returns-then-exported c = search end_ways

pub returns-else-exported : goal.returns-else-exported
returns-else-exported c = search end_ways
