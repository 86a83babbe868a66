-- `codes::in_five` meets its contract.
use mathlib.Core.Bool.{or-false}
use Rattle.codes.proofs.in_five.Goals as goal

pub returns : goal.returns
returns c = simp or-false
