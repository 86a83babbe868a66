-- `name_file::is_sound` meets its contract.
use Rattle.name_file.proofs.Laws.{end_ways}
use Rattle.name_file.proofs.is_sound.Goals as goal

pub returns-in-Start : goal.returns-in-Start
returns-in-Start c = search end_ways

pub returns-in-Return : goal.returns-in-Return
returns-in-Return c = search end_ways

pub returns-in-Letters : goal.returns-in-Letters
returns-in-Letters c = search end_ways

pub returns-in_default : goal.returns-in_default
returns-in_default c = search end_ways
