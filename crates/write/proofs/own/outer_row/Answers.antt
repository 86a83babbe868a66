-- `write::own::outer_row` meets its contract.
use Rattle.write.proofs.own.outer_row.Goals as goal

pub returns : goal.returns
returns c = cc
