-- `plan::insertions::insert` meets its contract.
use Rattle.plan.proofs.Grows.{grows}
use Rattle.plan.proofs.InsertionsLaws.{ways}
use Rattle.plan.proofs.insertions.insert.Goals as goal

pub alias_slot-slot-requires : goal.alias_slot-slot-requires
alias_slot-slot-requires c = search grows

pub declare-used-requires : goal.declare-used-requires
declare-used-requires c = search grows

pub wrapping_add_u32-requires : goal.wrapping_add_u32-requires
wrapping_add_u32-requires c = search grows

pub returns : goal.returns
returns c = (search ways, search grows)
