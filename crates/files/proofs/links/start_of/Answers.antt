-- `files::links::start_of` meets its contract.
use Rattle.files.proofs.Laws.{ways}
use Rattle.files.proofs.links.start_of.Goals as goal

pub returns-then-text-eq0 : goal.returns-then-text-eq0
returns-then-text-eq0 c = search ways

pub returns-then-text-eq47 : goal.returns-then-text-eq47
returns-then-text-eq47 c = search ways

pub returns-else-text-eq47 : goal.returns-else-text-eq47
returns-else-text-eq47 c = search ways
