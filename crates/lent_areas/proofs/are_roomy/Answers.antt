-- `lent_areas::are_roomy` meets its contract.
use Rattle.lent_areas.proofs.Ways.{ways}
use Rattle.lent_areas.proofs.are_roomy.Goals as goal

pub returns : goal.returns
returns c = search ways
