-- `plan::insertions::declare` meets its contract.
use Rattle.std.proofs.Common.{rules}
use Rattle.plan.proofs.Grows.{grows}
use Rattle.plan.proofs.InsertionsLaws.{ways}
use Rattle.plan.proofs.insertions.declare.Goals as goal

pub bump-number-requires : goal.bump-number-requires
bump-number-requires c = search grows

pub numbered-requires : goal.numbered-requires
numbered-requires c = search grows

pub push-requires : goal.push-requires
push-requires c = search grows

pub returns : goal.returns
returns c = (search ways, search grows, search rules)
