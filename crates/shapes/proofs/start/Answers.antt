-- `shapes::start` meets its contract. One line for each way through the `match`: the range of codes that its tests leave.
use native.Mathlib.Omega.{arith}
use mathlib.Core.Path.{refl}
use mathlib.Core.Logic.{inl, inr}
use Rattle.kit.specs.Pick.{pick}
use Rattle.rules.specs.Tools.{when◌then◌else◌}
use Rattle.wants.specs.States.{states, left_of}
use Rattle.shapes.specs.Starts.{parts_by}
use Rattle.shapes.proofs.Laws.{by_start, outer_start, signature_start, none_start}
use borrow.Author.Rules.{rules}
use Rattle.shapes.proofs.start.Goals as goal

pub returns-in-2 : goal.returns-in-2
returns-in-2 c = by_start _ _ _ 2 1 _ refl (unfold left_of states pick parts_by when◌then◌else◌ in refl) (omega arith) (omega arith)

pub returns-in-3 : goal.returns-in-3
returns-in-3 c = by_start _ _ _ 3 1 _ refl (unfold left_of states pick parts_by when◌then◌else◌ in refl) (omega arith) (omega arith)

pub returns-in-4 : goal.returns-in-4
returns-in-4 c = by_start _ _ _ 4 1 _ refl (unfold left_of states pick parts_by when◌then◌else◌ in refl) (omega arith) (omega arith)

pub returns-in-5 : goal.returns-in-5
returns-in-5 c = by_start _ _ _ 5 1 _ refl (unfold left_of states pick parts_by when◌then◌else◌ in refl) (omega arith) (omega arith)

pub returns-in-7 : goal.returns-in-7
returns-in-7 c = by_start _ _ _ 7 1 _ refl (unfold left_of states pick parts_by when◌then◌else◌ in refl) (omega arith) (omega arith)

pub returns-in-8 : goal.returns-in-8
returns-in-8 c = by_start _ _ _ 8 1 _ refl (unfold left_of states pick parts_by when◌then◌else◌ in refl) (omega arith) (omega arith)

pub returns-in-9 : goal.returns-in-9
returns-in-9 c = by_start _ _ _ 9 1 _ refl (unfold left_of states pick parts_by when◌then◌else◌ in refl) (omega arith) (omega arith)

pub returns-in-10 : goal.returns-in-10
returns-in-10 c = by_start _ _ _ 10 1 _ refl (unfold left_of states pick parts_by when◌then◌else◌ in refl) (omega arith) (omega arith)

pub returns-in-11 : goal.returns-in-11
returns-in-11 c = search (outer_start, rules)

pub returns-in-12 : goal.returns-in-12
returns-in-12 c = by_start _ _ _ 12 1 _ refl (unfold left_of states pick parts_by when◌then◌else◌ in refl) (omega arith) (omega arith)

pub returns-in-13 : goal.returns-in-13
returns-in-13 c = by_start _ _ _ 13 1 _ refl (unfold left_of states pick parts_by when◌then◌else◌ in refl) (omega arith) (omega arith)

pub returns-in-16 : goal.returns-in-16
returns-in-16 c = by_start _ _ _ 16 1 _ c.resource_of.ensures (unfold parts_by in refl) (omega arith) (omega arith)

pub returns-in-18 : goal.returns-in-18
returns-in-18 c = by_start _ _ _ 18 1 _ refl (unfold left_of states pick parts_by when◌then◌else◌ in refl) (omega arith) (omega arith)

pub returns-in-19 : goal.returns-in-19
returns-in-19 c = by_start _ _ _ 19 1 _ c.builtin_of.ensures (unfold parts_by in refl) (omega arith) (omega arith)

pub returns-in-20 : goal.returns-in-20
returns-in-20 c = by_start _ _ _ 20 1 _ refl (unfold left_of states pick parts_by when◌then◌else◌ in refl) (omega arith) (omega arith)

pub returns-in-21 : goal.returns-in-21
returns-in-21 c = signature_start _ _ _ _ _ (inl (cc)) c.signature_of.ensures

pub returns-in-22 : goal.returns-in-22
returns-in-22 c = by_start _ _ _ 22 1 _ c.export_of.ensures (unfold parts_by in refl) (omega arith) (omega arith)

pub returns-in-23 : goal.returns-in-23
returns-in-23 c = signature_start _ _ _ _ _ (inr (cc)) c.signature_of-in-23.ensures

pub returns-in-24 : goal.returns-in-24
returns-in-24 c = by_start _ _ _ 24 1 _ refl (unfold left_of states pick parts_by when◌then◌else◌ in refl) (omega arith) (omega arith)

pub returns-in_default : goal.returns-in_default
returns-in_default c = search (none_start, rules)
