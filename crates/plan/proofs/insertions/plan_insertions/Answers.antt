-- `plan::insertions::plan_insertions` meets its contract.
use Rattle.plan.proofs.Grows.{grows}
use Rattle.plan.proofs.InsertionsLaws.{ways}
use Rattle.plan.proofs.insertions.plan_insertions.Goals as goal

pub field_code-requires : goal.field_code-requires
field_code-requires c = search grows

pub here_only-requires : goal.here_only-requires
here_only-requires c = search grows

pub returns-then-here_only : goal.returns-then-here_only
returns-then-here_only c = (search ways, search grows)

pub plan_operands-requires : goal.plan_operands-requires
plan_operands-requires c = search grows

pub returns : goal.returns
returns c = (search ways, search grows)
