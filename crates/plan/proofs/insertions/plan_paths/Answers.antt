-- `plan::insertions::plan_paths` meets its contract.
use Rattle.std.proofs.Common.{rules}
use Rattle.plan.proofs.Grows.{grows}
use Rattle.plan.proofs.InsertionsLaws.{ways, paths_turn}
use Rattle.plan.proofs.insertions.plan_paths.Goals as goal

pub loop-left-init : goal.loop-left-init
loop-left-init c = (search rules, search grows, search rules, search rules, search rules)

pub insert-p-requires : goal.insert-p-requires
insert-p-requires c = search grows

pub loop-left-preserved : goal.loop-left-preserved
loop-left-preserved c = (search paths_turn, search grows, search rules, search rules, search rules)

pub insert-requires : goal.insert-requires
insert-requires c = search grows

pub returns : goal.returns
returns c = (search ways, search grows)
