-- `field_codes::exports` meets its contract.
use mathlib.Core.Path.{refl}
use Rattle.rules.specs.Shapes.{exports}
use Rattle.field_codes.proofs.exports.Goals as goal

pub returns : goal.returns
unfolding exports
returns c = refl
