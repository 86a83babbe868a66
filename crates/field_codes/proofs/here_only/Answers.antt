-- `field_codes::here_only` meets its contract.
use mathlib.Core.Bool.{or-false}
use Rattle.rules.specs.Shapes.{here_only}
use Rattle.field_codes.proofs.here_only.Goals as goal

pub returns : goal.returns
unfolding here_only
returns c = simp or-false
