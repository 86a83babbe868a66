-- `back_rows::write::write_back` meets its contract.
use Rattle.back_rows.proofs.Ways.{backing}
use Rattle.std.proofs.Common.{rules}
use Rattle.back_rows.proofs.write.write_back.Goals as goal

pub loop-i-init : goal.loop-i-init
loop-i-init c = (search backing, search rules)

pub loop-i-preserved : goal.loop-i-preserved
loop-i-preserved c = (search backing, search rules)

pub returns : goal.returns
returns c = search backing
