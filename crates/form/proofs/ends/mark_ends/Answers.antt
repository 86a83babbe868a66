-- `form::ends::mark_ends` meets its contract.
use Rattle.form.proofs.MarkEnds.{ways}
use Rattle.form.proofs.ends.mark_ends.Goals as goal

pub returns : goal.returns
returns c = search ways
