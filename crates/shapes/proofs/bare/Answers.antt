-- `shapes::bare` meets its contract. One line for each way through the `match`: the range of codes that its tests leave.
use native.Mathlib.Omega.{arith}
use mathlib.Core.Path.{refl}
use Rattle.kit.specs.Pick.{pick}
use Rattle.rules.specs.Tools.{when◌then◌else◌, only}
use Rattle.rules.specs.Shapes.{declares, enough}
use Rattle.kit.proofs.Tables.{at_range}
use Rattle.wants.specs.States.{states, left_of}
use Rattle.shapes.specs.Starts.{parts_by, bare_parts}
use Rattle.shapes.proofs.Laws.{bare_not, bare_past}
use Rattle.shapes.proofs.bare.Goals as goal

pub returns-in-0 : goal.returns-in-0
returns-in-0 c = at_range bare_parts 0 1 _ refl (unfold left_of states pick bare_parts parts_by only enough declares when◌then◌else◌ in refl) (omega arith) (omega arith)

pub returns-in-5 : goal.returns-in-5
returns-in-5 c = at_range bare_parts 5 1 _ refl (unfold left_of states pick bare_parts parts_by only enough declares when◌then◌else◌ in refl) (omega arith) (omega arith)

pub returns-in-20 : goal.returns-in-20
returns-in-20 c = at_range bare_parts 20 1 _ refl (unfold left_of states pick bare_parts parts_by only enough declares when◌then◌else◌ in refl) (omega arith) (omega arith)

pub returns-in-24 : goal.returns-in-24
returns-in-24 c = at_range bare_parts 24 1 _ refl (unfold left_of states pick bare_parts parts_by only enough declares when◌then◌else◌ in refl) (omega arith) (omega arith)

pub returns-in-1-to-23 : goal.returns-in-1-to-23
returns-in-1-to-23 c = bare_not _ (omega arith) (omega arith) (omega arith) (omega arith)

pub returns-in_default : goal.returns-in_default
returns-in_default c = bare_past _ (omega arith) (omega arith)
