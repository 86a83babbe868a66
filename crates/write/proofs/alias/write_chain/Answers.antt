-- `write::alias::write_chain` meets its contract.
use Rattle.write.proofs.LawsAlias.{ways, chain_turn}
use borrow.Author.Rules.{rules}
use Rattle.write.proofs.alias.write_chain.Goals as goal

pub loop-c-init : goal.loop-c-init
loop-c-init c = search ways

pub shape_of-out-then-n-k : goal.shape_of-out-then-n-k
shape_of-out-then-n-k c = search ways

pub returns-then-n-k : goal.returns-then-n-k
returns-then-n-k c = search ways

pub overflow_add-k : goal.overflow_add-k
overflow_add-k c = search ways

pub row_at-requires : goal.row_at-requires
row_at-requires c = search ways

pub enum_known-export : goal.enum_known-export
enum_known-export c = search ways

pub shape_of-out-in_default : goal.shape_of-out-in_default
shape_of-out-in_default c = search ways

pub returns-in_default : goal.returns-in_default
returns-in_default c = search ways

pub slot_at-slot-requires : goal.slot_at-slot-requires
slot_at-slot-requires c = search ways

pub write_export-to-requires : goal.write_export-to-requires
write_export-to-requires c = search ways

pub passed-cur-requires : goal.passed-cur-requires
passed-cur-requires c = search ways

pub bounds-slot-2 : goal.bounds-slot-2
bounds-slot-2 c = search ways

pub chain_on-c-requires : goal.chain_on-c-requires
chain_on-c-requires c = search ways

pub loop-c-smaller : goal.loop-c-smaller
loop-c-smaller c = search ways

pub loop-c-preserved : goal.loop-c-preserved
loop-c-preserved c = (search chain_turn, search rules)

pub shape_of-out : goal.shape_of-out
shape_of-out c = search ways

pub returns : goal.returns
returns c = search ways
