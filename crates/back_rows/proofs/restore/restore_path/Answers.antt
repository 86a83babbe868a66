-- `back_rows::restore::restore_path` meets its contract.
use Rattle.back_rows.proofs.Ways.{pathing}
use Rattle.std.proofs.Common.{rules}
use Rattle.back_rows.proofs.restore.restore_path.Goals as goal

pub loop-init : goal.loop-init
loop-init c = (search pathing, search rules)

pub returns-then-not-is_linked : goal.returns-then-not-is_linked
returns-then-not-is_linked c = search pathing

pub loop-preserved : goal.loop-preserved
loop-preserved c = (search pathing, search rules)

pub returns : goal.returns
returns c = search pathing
