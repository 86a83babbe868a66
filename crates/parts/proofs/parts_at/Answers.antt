-- `parts::parts_at` meets its contract.
use Rattle.kit.proofs.Laws.{yes!, no!, tests}
use mathlib.Core.Path.{refl}
use Rattle.parts.specs.PartsAt.{parts_at}
use Rattle.parts.proofs.parts_at.Goals as goal

pub returns-then-rows-i : goal.returns-then-rows-i
unfolding parts_at
returns-then-rows-i c = yes! _ (omega tests) refl

pub returns : goal.returns
unfolding parts_at
returns c = no! _ (omega tests) (cc)
