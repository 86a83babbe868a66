-- `files::path_parts::front` meets its contract.
use Rattle.files.proofs.Laws.{ways}
use Rattle.files.proofs.path_parts.front.Goals as goal

pub returns-then-count-bytes : goal.returns-then-count-bytes
returns-then-count-bytes c = search ways

pub returns-else-count-bytes : goal.returns-else-count-bytes
returns-else-count-bytes c = search ways
