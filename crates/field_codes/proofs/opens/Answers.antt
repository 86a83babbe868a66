-- `field_codes::opens` meets its contract.
use native.Mathlib.Omega.{arith}
use mathlib.Core.Path.{refl}
use Rattle.rules.specs.Tools.{when◌then◌else◌}
use Rattle.rules.specs.Shapes.{opens}
use Rattle.field_codes.specs.Values.{as_option}
use Rattle.kit.proofs.Tables.{at_range}
use Rattle.field_codes.proofs.Laws.{opens_nothing}
use Rattle.field_codes.proofs.opens.Goals as goal

pub returns-in-6 : goal.returns-in-6
unfolding as_option
returns-in-6 c = at_range opens 6 1 _ refl (unfold opens when◌then◌else◌ in refl) (omega arith) (omega arith)

pub returns-in-14 : goal.returns-in-14
unfolding as_option
returns-in-14 c = at_range opens 14 1 _ refl (unfold opens when◌then◌else◌ in refl) (omega arith) (omega arith)

pub returns-in-15 : goal.returns-in-15
unfolding as_option
returns-in-15 c = at_range opens 15 1 _ refl (unfold opens when◌then◌else◌ in refl) (omega arith) (omega arith)

pub returns-in-17 : goal.returns-in-17
unfolding as_option
returns-in-17 c = at_range opens 17 1 _ refl (unfold opens when◌then◌else◌ in refl) (omega arith) (omega arith)

pub returns-in_default : goal.returns-in_default
unfolding as_option
returns-in_default c = opens_nothing _ (omega arith) (omega arith) (omega arith) (omega arith)
