-- `matched::row::is_name_x` meets its contract.
use Rattle.matched.proofs.Rows.{name_x}
use Rattle.matched.proofs.row.is_name_x.Goals as goal

pub returns : goal.returns
returns c = name_x _ _
