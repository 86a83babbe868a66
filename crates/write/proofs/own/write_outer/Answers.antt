-- `write::own::write_outer` meets its contract.
use Rattle.write.proofs.LawsOwn.{ways, outer_written}
use Rattle.write.proofs.own.write_outer.Goals as goal

pub returns-in_err-outward : goal.returns-in_err-outward
returns-in_err-outward c = search ways

pub returns : goal.returns
returns c = outer_written _ _ _ _ _ _ c.outer_numbers.ensures _ c.in_ok-outward.was _ _ c.put_row-to.ensures _ c.written.ensures
