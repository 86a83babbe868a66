-- `shapes::builtin_of` meets its contract. One line for each way through the `match`: the range of codes that its tests leave.
use native.Mathlib.Omega.{arith}
use mathlib.Core.Path.{refl}
use Rattle.kit.specs.Pick.{pick}
use Rattle.rules.specs.Tools.{when◌then◌else◌}
use Rattle.rules.specs.Shapes.{builtin_parts}
use Rattle.wants.specs.States.{states, left_of}
use Rattle.shapes.proofs.Laws.{builtin_none, by_builtin}
use Rattle.shapes.proofs.builtin_of.Goals as goal

pub returns-in-0 : goal.returns-in-0
returns-in-0 c = by_builtin _ 0 1 _ refl (unfold left_of states pick builtin_parts when◌then◌else◌ in refl) (omega arith) (omega arith)

pub returns-in-4 : goal.returns-in-4
returns-in-4 c = by_builtin _ 4 1 _ refl (unfold left_of states pick builtin_parts when◌then◌else◌ in refl) (omega arith) (omega arith)

pub returns-in-5 : goal.returns-in-5
returns-in-5 c = by_builtin _ 5 1 _ refl (unfold left_of states pick builtin_parts when◌then◌else◌ in refl) (omega arith) (omega arith)

pub returns-in-13 : goal.returns-in-13
returns-in-13 c = by_builtin _ 13 1 _ refl (unfold left_of states pick builtin_parts when◌then◌else◌ in refl) (omega arith) (omega arith)

pub returns-in-40 : goal.returns-in-40
returns-in-40 c = by_builtin _ 40 1 _ refl (unfold left_of states pick builtin_parts when◌then◌else◌ in refl) (omega arith) (omega arith)

pub returns-in-14-to-15 : goal.returns-in-14-to-15
returns-in-14-to-15 c = by_builtin _ 14 2 _ c.heap_of.ensures (unfold builtin_parts when◌then◌else◌ in refl) (omega arith) (omega arith)

pub returns-in-32-to-33 : goal.returns-in-32-to-33
returns-in-32-to-33 c = by_builtin _ 32 2 _ refl (unfold left_of states pick builtin_parts when◌then◌else◌ in refl) (omega arith) (omega arith)

pub returns-in-35-to-36 : goal.returns-in-35-to-36
returns-in-35-to-36 c = by_builtin _ 35 2 _ refl (unfold left_of states pick builtin_parts when◌then◌else◌ in refl) (omega arith) (omega arith)

pub returns-in-17-to-18 : goal.returns-in-17-to-18
returns-in-17-to-18 c = by_builtin _ 17 2 _ refl (unfold left_of states pick builtin_parts when◌then◌else◌ in refl) (omega arith) (omega arith)

pub returns-in-17-to-18-2 : goal.returns-in-17-to-18-2
returns-in-17-to-18-2 c = by_builtin _ 25 2 _ refl (unfold left_of states pick builtin_parts when◌then◌else◌ in refl) (omega arith) (omega arith)

pub returns-in_default : goal.returns-in_default
returns-in_default c = by_builtin _ 6 7 _ refl (unfold left_of states pick builtin_parts when◌then◌else◌ in refl) (omega arith) (omega arith)

pub returns-in_default-2 : goal.returns-in_default-2
returns-in_default-2 c = by_builtin _ 34 1 _ refl (unfold left_of states pick builtin_parts when◌then◌else◌ in refl) (omega arith) (omega arith)

pub returns-in_default-3 : goal.returns-in_default-3
returns-in_default-3 c = builtin_none _ _ (omega arith) (omega arith)

pub returns-in-1-to-3 : goal.returns-in-1-to-3
returns-in-1-to-3 c = by_builtin _ 16 1 _ refl (unfold left_of states pick builtin_parts when◌then◌else◌ in refl) (omega arith) (omega arith)

pub returns-in-1-to-3-2 : goal.returns-in-1-to-3-2
returns-in-1-to-3-2 c = by_builtin _ 1 3 _ refl (unfold left_of states pick builtin_parts when◌then◌else◌ in refl) (omega arith) (omega arith)

pub returns-in-1-to-3-3 : goal.returns-in-1-to-3-3
returns-in-1-to-3-3 c = by_builtin _ 19 6 _ refl (unfold left_of states pick builtin_parts when◌then◌else◌ in refl) (omega arith) (omega arith)

pub returns-in-1-to-3-4 : goal.returns-in-1-to-3-4
returns-in-1-to-3-4 c = by_builtin _ 27 5 _ refl (unfold left_of states pick builtin_parts when◌then◌else◌ in refl) (omega arith) (omega arith)
