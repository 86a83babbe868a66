-- `allowed::allowed_rows` meets its contract. One computed test over the four rows (`allowed_right`).
use mathlib.Core.Path.{refl}
use Rattle.rules.specs.Shapes.{allowed}
use Rattle.allowed.proofs.Laws.{allowed_right}
use Rattle.allowed.proofs.allowed_rows.Goals as goal

pub returns : goal.returns
unfolding allowed
returns c = allowed_right _ refl
