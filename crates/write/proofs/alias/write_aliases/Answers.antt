-- `write::alias::write_aliases` meets its contract.
use Rattle.write.proofs.LawsAlias.{ways, aliases_turn, aliases_other}
use borrow.Author.Rules.{rules}
use Rattle.write.proofs.alias.write_aliases.Goals as goal

pub loop-i-init : goal.loop-i-init
loop-i-init c = search ways

pub overflow_add-i : goal.overflow_add-i
overflow_add-i c = search ways

pub ref_or_open_at-requires : goal.ref_or_open_at-requires
ref_or_open_at-requires c = search ways

pub enum_known-space : goal.enum_known-space
enum_known-space c = search ways

pub overflow_cast-r : goal.overflow_cast-r
overflow_cast-r c = search ways

pub row_number-requires : goal.row_number-requires
row_number-requires c = search ways

pub write_alias-walked-requires : goal.write_alias-walked-requires
write_alias-walked-requires c = search ways

pub enum_known-walked : goal.enum_known-walked
enum_known-walked c = search ways

pub loop-i-smaller-in-Ok : goal.loop-i-smaller-in-Ok
loop-i-smaller-in-Ok c = search ways

pub loop-i-preserved-in-Ok : goal.loop-i-preserved-in-Ok
loop-i-preserved-in-Ok c = (search aliases_turn, search rules)

pub enum_told-1 : goal.enum_told-1
enum_told-1 c = search ways

pub shape_of-out-in-Err : goal.shape_of-out-in-Err
shape_of-out-in-Err c = search ways

pub returns-in-Err : goal.returns-in-Err
returns-in-Err c = search ways

pub enum_told-in-Open : goal.enum_told-in-Open
enum_told-in-Open c = search ways

pub shape_of-out-in-Open : goal.shape_of-out-in-Open
shape_of-out-in-Open c = search ways

pub returns-in-Open : goal.returns-in-Open
returns-in-Open c = search ways

pub loop-i-smaller : goal.loop-i-smaller
loop-i-smaller c = search ways

pub loop-i-preserved : goal.loop-i-preserved
loop-i-preserved c = (search aliases_other, search rules)

pub shape_of-out : goal.shape_of-out
shape_of-out c = search ways

pub returns : goal.returns
returns c = search ways
