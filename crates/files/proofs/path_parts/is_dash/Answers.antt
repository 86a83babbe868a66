-- `files::path_parts::is_dash` meets its contract.
use Rattle.files.proofs.Laws.{ways}
use Rattle.files.proofs.path_parts.is_dash.Goals as goal

pub returns-then-path-ne1 : goal.returns-then-path-ne1
returns-then-path-ne1 c = search ways

pub returns : goal.returns
returns c = search ways
