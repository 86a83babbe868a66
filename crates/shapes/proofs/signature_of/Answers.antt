-- `shapes::signature_of` meets its contract.
use mathlib.Core.Path.{refl, ap}
use mathlib.Core.Bool.{or-false}
use mathlib.Core.Option.{some}
use Rattle.kit.specs.Pick.{pick}
use Rattle.kit.proofs.Laws.{tests}
use Rattle.rules.specs.Shapes.{signature}
use Rattle.codes.proofs.Laws.{if_yes, if_no}
use Rattle.wants.specs.States.{states, left_of}
use Rattle.shapes.proofs.signature_of.Goals as goal

pub returns-then-space-eq7 : goal.returns-then-space-eq7
unfolding signature left_of states pick
returns-then-space-eq7 c = ap some (if_yes _ (omega tests) refl)

pub returns-then-space : goal.returns-then-space
unfolding signature left_of states pick
returns-then-space c = ap some (if_no _ (omega tests) (if_yes _ (simp or-false (cc)) refl))

pub returns-else-space : goal.returns-else-space
unfolding signature left_of states pick
returns-else-space c = ap some (if_no _ (omega tests) (if_no _ (simp or-false (cc)) refl))
