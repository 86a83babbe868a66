-- `plan::enter::enter_field` meets its contract.
use Rattle.std.proofs.Common.{rules}
use Rattle.plan.proofs.Grows.{grows}
use Rattle.plan.proofs.EnterLaws.{ways, enter_turn}
use Rattle.plan.proofs.enter.enter_field.Goals as goal

pub decl_at-requires : goal.decl_at-requires
decl_at-requires c = search grows

pub returns-in_default : goal.returns-in_default
returns-in_default c = (search ways, search grows)

pub first_place-requires : goal.first_place-requires
first_place-requires c = search grows

pub returns-in-Some : goal.returns-in-Some
returns-in-Some c = (search ways, search grows)

pub push-count-requires : goal.push-count-requires
push-count-requires c = search grows

pub loop-i-preserved : goal.loop-i-preserved
loop-i-preserved c = (search enter_turn, search grows, search rules, search rules)

pub returns : goal.returns
returns c = (search ways, search grows)
