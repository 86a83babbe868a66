-- `write::alias::name_in` meets its contract.
use Rattle.write.proofs.LawsAlias.{ways}
use Rattle.write.proofs.alias.name_in.Goals as goal

pub returns-then-is_late : goal.returns-then-is_late
returns-then-is_late c = search ways

pub returns-in_err-declared : goal.returns-in_err-declared
returns-in_err-declared c = search ways

pub returns-else-is_late : goal.returns-else-is_late
returns-else-is_late c = search ways

pub returns-else-early : goal.returns-else-early
returns-else-early c = search ways
