-- `plan::insertions::plan_decls` meets its contract.
use Rattle.std.proofs.Common.{rules}
use Rattle.plan.proofs.Grows.{grows}
use Rattle.plan.proofs.InsertionsLaws.{ways, decls_turn}
use Rattle.plan.proofs.insertions.plan_decls.Goals as goal

pub decl_at-requires : goal.decl_at-requires
decl_at-requires c = search grows

pub returns-in_default : goal.returns-in_default
returns-in_default c = (search ways, search grows, search rules)

pub declared-requires : goal.declared-requires
declared-requires c = search grows

pub declare-count-requires : goal.declare-count-requires
declare-count-requires c = search grows

pub loop-i-preserved : goal.loop-i-preserved
loop-i-preserved c = (search decls_turn, search grows, search rules, search rules, search rules, search rules)

pub returns : goal.returns
returns c = (search ways, search grows, search rules)
